pub mod Starts
pub mod Chains
pub mod Expressions
pub mod Formulas
pub mod Lists
pub mod Items
pub mod Policies
pub mod Refusals
