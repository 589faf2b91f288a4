pub mod Name
pub mod Laws
pub mod Wire
pub mod Text
pub mod Part
