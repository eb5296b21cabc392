use Rattle.std.proofs.Common.{sym, ap, ◌∙◌}
use Rattle.definition.specs.Module.{Header as AnyHeader}
use Rattle.bytecode.specs.Tables.{cap}
use Rattle.bytecode.specs.Meaning.{chunk_word, chunk_float, chunk_address, chunk_index_trap, chunk_host_trap, locals_low}
use Rattle.bytecode.specs.Parts.{header_of}
use Rattle.rules.proofs.chunk.Context.new.Goals as goal

pub invariant_of-locals : goal.invariant_of-locals
invariant_of-locals c = record { few = rw c.locals.ensures (locals_low c.args.tables.now c.args.k) }

pub invariant_of-result : goal.invariant_of-result
unfolding header_of cap
invariant_of-result c =
    let t = c.args.tables.now in
    let k = c.args.k in
    let code = c.instructions_of-code.ensures in
    let widths = c.widths.ensures in
    record {
      of = record {
        low = c.requires;
        locals_is = c.locals.ensures;
        locals_low = rw c.locals.ensures (locals_low t k);
        first_is = code.first_is;
        count_is = code.count_is;
        within = code.within;
        wide = record { word = chunk_word t k ∙ sym widths.word_is; float = chunk_float t k ∙ sym widths.float_is; address = chunk_address t k ∙ sym widths.address_is };
        index_is = chunk_index_trap t k ∙ sym (ap (λ (h : AnyHeader). h.index_trap) c.header_at-header.ensures);
        host_is = chunk_host_trap t k ∙ sym (ap (λ (h : AnyHeader). h.host_trap) c.header_at-header.ensures);
      };
    }
