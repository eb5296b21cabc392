-- A text that is being put: what was put so far, and what is left of it. Assumes nothing.
use Rattle.std.proofs.Common.{◌≡◌, refl, sym, ap, ◌∙◌, [], Some, None}
use Rattle.std.specs.Prelude.{Option as CodeOption}
use Rattle.std.proofs.Math.Option.{Option, none, some}
use Rattle.definition.specs.Format.{Bytes}
use Rattle.theorems.specs.Cover.{no_some}
use Rattle.text_out.specs.declared.Text.{Text}
use Rattle.text_out.specs.Text.{with_text, after_text, laid}
use Rattle.text_out.proofs.Laws.{with_text_append}
use Rattle.writer.specs.Put.{joined, with_said, answered, Puts}

-- ── One call ──────────────────────────────────────────────────────────────────────────────

module _ (a b : Text) where
  -- a text that is not missing
  pub puts_all : (x : Bytes) → b ≡ with_text a x → Puts a (some x) (Some tt) b
  unfolding with_said answered
  puts_all x e = record { buffer = ap (λ (t : Text). t.out.ghost_name) e; text = ap some e }

  pub puts_same : {o p : Option Bytes} {r : CodeOption (Unit {0})} → o ≡ p → Puts a o r b → Puts a p r b
  puts_same {o} {p} {r} e w = rw e at w

pub puts_missing : (a : Text) → Puts a none None a
unfolding with_said answered
puts_missing a = record { buffer = refl; text = refl }

-- ── Calls one after another ───────────────────────────────────────────────────────────────

with_joined : (t u : Text) (o p : Option Bytes) → some u ≡ with_said t o → with_said t (joined o p) ≡ with_said u p
unfolding with_said joined
with_joined t u none p e = absurd (no_some e)
with_joined t u (some x) none e = refl
with_joined t u (some x) (some y) e = let f : u ≡ with_text t x = cc in ap some (with_text_append t x y) ∙ ap (λ (v : Text). some (with_text v y)) (sym f)

with_lost : (t : Text) (o p : Option Bytes) → none ≡ with_said t o → none ≡ with_said t (joined o p)
unfolding with_said joined
with_lost t none p e = refl
with_lost t (some x) p e = absurd (no_some (sym e))

-- What was put is the first part of the whole; `left` is the rest.
pub record Putting (before now : Text) (left whole : Option Bytes) : Type 0 where
  pub buffer : now.out.ghost_name ≡ before.out.ghost_name
  pub text : with_said now left ≡ with_said before whole

pub putting_start : (t : Text) (whole : Option Bytes) → Putting t t whole whole
putting_start t whole = record { buffer = refl; text = refl }

module _ {before now : Text} {left whole : Option Bytes} (p : Putting before now left whole) where
  -- one part more
  pub putting_more : {then : Text} {o rest : Option Bytes} → left ≡ joined o rest → Puts now o (Some tt) then → Putting before then rest whole
  unfolding answered
  putting_more {then} {o} {rest} e w =
      record { buffer = w.buffer ∙ p.buffer; text = sym (with_joined now then o rest w.text) ∙ ap (with_said now) (sym e) ∙ p.text }

  -- a part that no listing says
  pub putting_lost : {then : Text} {o : Option Bytes} (rest : Option Bytes) → left ≡ joined o rest → Puts now o None then → Puts before whole None then
  unfolding answered
  putting_lost {then} {o} rest e w =
      record { buffer = w.buffer ∙ p.buffer; text = with_lost now o rest w.text ∙ ap (with_said now) (sym e) ∙ p.text }

  -- the last part
  pub putting_last : {then : Text} {r : CodeOption (Unit {0})} → Puts now left r then → Puts before whole r then
  putting_last {then} {r} w = record { buffer = w.buffer ∙ p.buffer; text = w.text ∙ p.text }

  pub putting_done : left ≡ some [] → Puts before whole (Some tt) now
  unfolding with_said answered after_text laid
  putting_done e = record { buffer = p.buffer; text = sym (ap (with_said now) e) ∙ p.text }

  pub putting_missing : left ≡ none → Puts before whole None now
  unfolding with_said answered
  putting_missing e = record { buffer = p.buffer; text = sym (ap (with_said now) e) ∙ p.text }

pub puts_both : {a b c : Text} {o p : Option Bytes} {r : CodeOption (Unit {0})} → Puts a o (Some tt) b → Puts b p r c → Puts a (joined o p) r c
puts_both {a} {b} {c} {o} {p} {r} v w = putting_last (putting_more (putting_start a (joined o p)) refl v) w

pub puts_lost : {a b : Text} {o : Option Bytes} (p : Option Bytes) → Puts a o None b → Puts a (joined o p) None b
puts_lost {a} {b} {o} p v = putting_lost (putting_start a (joined o p)) p refl v
