-- How sixteen numbers hold a list that may be shorter.
use Rattle.std.specs.Prelude.{ℕ, ◌≡◌, ◌-◌, ◌≤◌, List, length, drop, replicate}

-- the first so many are the list, and the rest are 0
pub record IsPadded (count : ℕ) (at : List ℕ) : Type 0 where
  pub few : count ≤ 16
  pub long : length at ≡ 16
  pub rest : drop count at ≡ replicate (16 - count) 0
