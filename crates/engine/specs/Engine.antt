-- Two files compared over the grid: the definitions that the engine's callers read.
unfoldable pub use Rattle.plan.specs.Comparison.{outputs_differ}
pub use Rattle.plan.specs.Comparison.{larger_count, Comparable}
