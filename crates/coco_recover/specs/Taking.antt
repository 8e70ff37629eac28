-- What a reading of a file is to contracts.
use Rattle.std.specs.Prelude.{List}

-- what the entries stand under, and those that were taken so far
pub record Taken (S E : Type 0) : Type 0 where
  pub under : S
  pub taken : List E
