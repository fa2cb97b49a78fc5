pub mod PreorderNames
pub mod StartSound
