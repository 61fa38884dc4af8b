-- What a table has away from the place where it was changed: mr_settle's proofs cite it here.
pub use Rattle.mr_world.proofs.Groundwork.Tools.{at_other}
