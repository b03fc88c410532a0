pub mod OneCell
