pub mod PlaceLaws
pub mod BirthLaws
pub mod ExitLaws
pub mod CollectLaws
pub mod MoveLaws
pub mod MigrationLaws
