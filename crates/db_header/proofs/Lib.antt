mod Order
mod Written
