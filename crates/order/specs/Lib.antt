pub mod Laws
pub mod Refusals
pub mod RoleSets
pub mod SetLaws
