pub mod Alike
pub mod BuyTooYoung
