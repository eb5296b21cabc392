-- Texts that are put one after another, of which some may be missing.
use Rattle.std.specs.Prelude.{◌≡◌, refl, [], ◌++◌, ℕ, ◌≤◌, ◌<◌, length, drop, Option as CodeOption, Some, None}
use Rattle.std.proofs.Common.{ap, append_assoc, append-nil}
use Rattle.std.proofs.Math.Option.{Option, none, some}
use Rattle.definition.specs.Format.{Bytes}
use Rattle.text_out.specs.declared.Text.{Text}
use Rattle.text_out.specs.Text.{with_text}

-- ── Texts that may be missing ─────────────────────────────────────────────────────────────

-- one text, then another; none where either is missing
unfoldable pub joined : Option Bytes → Option Bytes → Option Bytes
joined none p = none
joined (some x) none = none
joined (some x) (some y) = some (x ++ y)

pub joined_nothing : (o : Option Bytes) → joined (some []) o ≡ o
unfolding joined
joined_nothing none = refl
joined_nothing (some x) = refl

pub nothing_joined : (o : Option Bytes) → joined o (some []) ≡ o
unfolding joined
nothing_joined none = refl
nothing_joined (some x) = ap some (append-nil x)

pub joined_none : (o : Option Bytes) → joined o none ≡ none
unfolding joined
joined_none none = refl
joined_none (some x) = refl

pub joined-joined : (o p q : Option Bytes) → joined (joined o p) q ≡ joined o (joined p q)
unfolding joined
joined-joined none p q = refl
joined-joined (some x) none q = refl
joined-joined (some x) (some y) none = refl
joined-joined (some x) (some y) (some z) = ap some (append_assoc x y z)

-- ── Texts in a buffer ─────────────────────────────────────────────────────────────────────

-- a text with another after it, where that is not missing
unfoldable pub with_said : Text → Option Bytes → Option Text
with_said t none = none
with_said t (some x) = some (with_text t x)

-- what a call made of a text, where its answer is not None
unfoldable pub answered : CodeOption (Unit {0}) → Text → Option Text
answered None t = none
answered (Some u) t = some t

-- A call puts a text, or answers None where it is missing: then it is not said what the buffer holds of it, but it is the same buffer.
pub record Puts (before : Text) (said : Option Bytes) (answer : CodeOption (Unit {0})) (after : Text) : Type 0 where
  pub buffer : after.out.ghost_name ≡ before.out.ghost_name
  pub text : answered answer after ≡ with_said before said

-- ── A listing ─────────────────────────────────────────────────────────────────────────────

-- A call puts a listing from a buffer's start on: its answer is the length, or None where the listing is missing or has more than 65,536 bytes; and where
-- the buffer has room for the listing, that stands there, and what lies behind it is as it was.
pub record Listed (listing : Option Bytes) (before : Bytes) (answer : CodeOption ℕ) (after : Bytes) : Type 0 where
  pub missing : listing ≡ none → answer ≡ None
  pub long : (x : Bytes) → listing ≡ some x → 65536 < length x → answer ≡ None
  pub short : (x : Bytes) → listing ≡ some x → length x ≤ 65536 → answer ≡ Some (length x)
  pub text : (x : Bytes) → listing ≡ some x → length x ≤ 65536 → length x ≤ length before → after ≡ x ++ drop (length x) before
