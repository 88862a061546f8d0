pub mod Said
pub mod ConformSaid
pub mod RecordingSaid
pub mod AskedSaid
pub mod PlaceSaid
pub mod Placed
pub mod WordLaws
pub mod PlacedLaws
