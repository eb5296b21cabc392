-- What reads give, one after another, into one buffer.
use Rattle.std.proofs.Common.{◌≡◌, ℕ, ◌+◌, ◌≤◌, List, ◌++◌, length, take, Option, None, Some, subst, sym, ap, ◌∙◌, append_assoc, length-take-le}
use Rattle.std.proofs.Math.Seq.{take-append-add}
use Rattle.std.proofs.lemmas.List.{take-append-le}
use Rattle.std.specs.Io.KnownBytes.{Consumes}
use borrow.Rule.Slice.PartMut.{put_mid}

-- n bytes of `part`, written over `buf` from `at` on, stand after those before them
take-part : (at n room : ℕ) (buf part : List ℕ) → at ≤ length buf → n ≤ length part → take (at + n) (put_mid at room buf part) ≡ take at buf ++ take n part
take-part at n room buf part within fits =
    ap (λ m. take (m + n) (put_mid at room buf part)) (sym (length-take-le at buf within)) ∙ take-append-add (take at buf) _ n ∙ ap (λ l. take at buf ++ l) (take-append-le n part _ fits)

-- the bytes read before, and then those of one more read
joined : (first before after : Option (List ℕ)) (xs ys : List ℕ) → Consumes first before xs → Consumes before after ys → Consumes first after (xs ++ ys)
joined None before after xs ys p q = tt
joined (Some a) None after xs ys p q = absurd p
joined (Some a) (Some b) None xs ys p q = absurd q
joined (Some a) (Some b) (Some c) xs ys p q = p ∙ ap (λ l. xs ++ l) q ∙ sym (append_assoc xs ys c)

pub read_on : (first before after : Option (List ℕ)) (at n room : ℕ) (buf part : List ℕ) → at ≤ length buf → n ≤ length part
    → Consumes first before (take at buf) → Consumes before after (take n part) → Consumes first after (take (at + n) (put_mid at room buf part))
read_on first before after at n room buf part within fits p q =
    subst (Consumes first after) (sym (take-part at n room buf part within fits)) (joined first before after _ _ p q)
