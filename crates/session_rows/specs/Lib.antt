pub mod Once
pub mod Formats
pub mod Opening
pub mod Spaces
pub mod Dataspaces
pub mod ObjectChecks
pub mod Objects
pub mod Transactions
