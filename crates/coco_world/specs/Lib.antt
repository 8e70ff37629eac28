pub mod World
pub mod Steps
pub mod Agreement
pub mod Laws
