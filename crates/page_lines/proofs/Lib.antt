pub mod Transactions
pub mod Written
pub mod GoodLines
pub mod Alone
pub mod OneMore
pub mod Ordinals
pub mod SerialLaw
pub mod WorldRuns
pub mod SerialRuns
pub mod GoingOn
pub mod AlikeLaw
pub mod Rises
pub mod LoggedRuns
pub mod LoggedAnswers
pub mod LoggedMoments
pub mod LoggedLeaves
mod WorkedLogs
