-- What writing a text is, as callers of the report read it.
pub use Rattle.text.specs.Writing.{TextWritten}
