-- What the contracts of the steps cite.
use Rattle.std.specs.Prelude.{◌≡◌, ℕ, ◌<◌, ◌-◌, Option, Some, None}
use Rattle.std.proofs.Math.Option.{none, some}
use Rattle.definition.specs.Instructions.{Chunk, control_at, if_to, loop_to}
use Rattle.definition.specs.Nesting.{else_at}
use Rattle.nesting.specs.Blocks.{Block, Keeps, Rules, Top, Names, Fits, NoBlock}
use Rattle.nesting.specs.Codes.{Coded, part_in}
use Rattle.nesting.specs.declared.code.Code.{Code}
use Rattle.nesting.specs.declared.part.Part.{Part}
use Rattle.nesting.specs.declared.place.Open.{Open}
use Rattle.nesting.specs.declared.place.Place.{Place}
use Rattle.nesting.specs.declared.place.Step.{Step}
use Rattle.nesting.specs.declared.place.Step.TheVariants.{Stay, Pop, Push}

-- The block that the instruction at p opens; none, where it breaks its rule.
abbrev pub Opens : Chunk → ℕ → Option Open → Type 0
Opens c p None = Keeps c p → ⊥
Opens c p (Some o) = Keeps c p × Block c p o.middle o.closer × Names c p o.target

-- What a step says of the instruction at p, where the innermost open block closes at e; none, where it breaks its rule.
abbrev pub Good : Chunk → ℕ → ℕ → Option Step → Type 0
Good c p e None = Keeps c p → ⊥
Good c p e (Some Stay) = Keeps c p × (e ≡ p → ⊥) × NoBlock c p
Good c p e (Some Pop) = Keeps c p × (e ≡ p) × NoBlock c p
Good c p e (Some (Push o)) = Opens c p (Some o)

-- The chunk has these instructions, its rules hold below p, and the innermost block open there is given.
pub record Here (c : Chunk) (code : Code) (inner : Open) (p : ℕ) : Type 0 where
  pub coded : Coded c code
  pub rules : Rules c p
  pub there : p < code.size
  pub top : Top c p inner.middle inner.closer inner.target

-- the same of a place
abbrev pub At : Chunk → Place → Type 0
At c x = Here c x.code.now x.inner x.at

-- A step that is right in every chunk that has these instructions.
abbrev pub Right : Code → Open → ℕ → Option Step → Type 0
Right code inner p r = (c : Chunk) → Here c code inner p → Good c p inner.closer r

-- what a Loop with this target opens
abbrev pub RightLoop : Place → ℕ → Option Open → Type 0
RightLoop x target r = (c : Chunk) → At c x → control_at c x.at ≡ loop_to target → Opens c x.at r

-- for an If
abbrev pub RightIf : Place → ℕ → Option Open → Type 0
RightIf x target r = (c : Chunk) → At c x → control_at c x.at ≡ if_to target → Opens c x.at r

-- for an If without an Else
abbrev pub RightOne : Place → ℕ → Option Open → Type 0
RightOne x target r =
    (c : Chunk) → At c x → x.at < target → control_at c x.at ≡ if_to target → else_at c x.at target ≡ none → Opens c x.at r

-- for an If whose Else stands at `middle` and leads to `closer`
abbrev pub RightTwo : Place → ℕ → ℕ → Option Open → Type 0
RightTwo x middle closer r =
    (c : Chunk) (target : ℕ) → At c x → middle ≡ target - 1 → control_at c x.at ≡ if_to target → else_at c x.at target ≡ some closer
    → Opens c x.at r

-- q has this part, and lies before the end of the arm that holds the place
abbrev pub Closes : Place → Part → ℕ → Type 0
Closes x part q = (part_in x.code.now q ≡ part) × Fits x.at x.inner.middle x.inner.closer q
