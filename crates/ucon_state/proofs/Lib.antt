pub mod Lists
pub mod Stages
pub mod Entities
pub mod Acts
pub mod Sounds
pub mod Places
mod Planning
mod Meeting
pub mod Moves
pub mod Numbered
pub mod Following
pub mod Amended
pub mod Laying
pub mod Rights
