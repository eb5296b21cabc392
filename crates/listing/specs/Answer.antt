-- The answer of reading: 01's number and values for each case, and what the tables then mean.
use Rattle.std.specs.Prelude.{◌≡◌, true, List, ℕ, length, Result as Outcome, Ok, Err}
use Rattle.std.proofs.Common.{sym, ap, ◌∙◌}
use Rattle.definition.specs.Basics.{Result, ok, refused}
use Rattle.definition.specs.Format.{Bytes}
use Rattle.definition.specs.Module.{Module, all_ops, chunks_of}
use Rattle.definition.specs.Read.{Reader, read}
use Rattle.bytecode.specs.Held.{Held, lists}
use Rattle.bytecode.specs.Meaning.{count, module_of, table_chunks}
use Rattle.bytecode.specs.Fits.{ModuleFits}
use Rattle.bytecode.specs.Exact.{is_exact, held_exact}
use Rattle.bytecode.specs.Bridge.{module_is, chunks_are, chunk_count, op_total}
use Rattle.listing.specs.Reads.{ReadIs}
use Rattle.listing.specs.Fitting.{read_fits}
use Rattle.answer.specs.Answer.{numbers}
use Rattle.answer.specs.declared.Refusal.{Refusal}

-- A refusal with its number and values, and chunk 0; a module that is read stands in the tables u.
unfoldable pub result_of : Outcome Unit Refusal → List ℕ → Result Module
result_of (Ok _) u = ok (module_of u)
result_of (Err r) u = refused (numbers 0 r)

-- The tables' chunks are those of the module that they mean, and so are the counts; they say it exactly.
pub record StandsIn (u : List ℕ) : Type 0 where
  pub chunks : table_chunks u ≡ chunks_of (module_of u)
  pub chunk_number : count u 7 ≡ length (module_of u).chunks
  pub op_number : count u 9 ≡ length (all_ops (module_of u).chunks)
  pub fits : ModuleFits (module_of u)
  pub reader : Reader
  pub held : Held u (lists reader)
  pub module_held : module_of u ≡ reader.so_far
  pub exact : is_exact u ≡ true

unfoldable pub LeftIn : Outcome Unit Refusal → List ℕ → Type 0
LeftIn (Ok _) u = StandsIn u
LeftIn (Err r) u = Unit {0}

pub answered : (s : Bytes) (r : Outcome Unit Refusal) (u : List ℕ) → ReadIs (read s) r u → (read s ≡ result_of r u) × LeftIn r u
unfolding ReadIs result_of LeftIn
answered s (Ok _) u x =
    let fit : ModuleFits x.0.so_far = read_fits s x.0.so_far x.1 in
    let e : module_of u ≡ x.0.so_far = module_is u x.0 x.3 fit x.2 in (
      x.1 ∙ ap ok (sym e),
      record {
        chunks = chunks_are u x.0 x.3 fit x.2 ∙ ap chunks_of (sym e);
        chunk_number = chunk_count u x.0 x.3 fit ∙ ap (λ (m : Module). length m.chunks) (sym e);
        op_number = op_total u x.0 x.3 fit ∙ ap (λ (m : Module). length (all_ops m.chunks)) (sym e);
        fits = rw e fit;
        reader = x.0;
        held = x.3;
        module_held = e;
        exact = held_exact u x.0 x.3 x.2 fit e;
      },
    )
answered s (Err r) u x = (x, tt)
