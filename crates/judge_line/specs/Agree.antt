-- Each line judge finds exactly what the rules say: one law for each kind of line.
pub use Rattle.judge_line.specs.AgreeField.{within_got, within_is}
unfoldable pub use Rattle.judge_line.specs.AgreeProperty.{NewEntries}
