-- Numbers within what a listing may say: true of every module that is read. Where a module fits, its words say it exactly.
use Rattle.std.specs.Prelude.{List, [], ◌∷◌, ℕ, ◌≤◌, ◌<◌, length}
use Rattle.definition.specs.Shapes.{Wire, top, scalar_w, flat_w}
use Rattle.definition.specs.Format.{bits}
use Rattle.definition.specs.Instructions.{Sig}
use Rattle.definition.specs.Ops.{Op}
use Rattle.definition.specs.Module.{Shared, Private, Code, Header, Module}
use Rattle.bytecode.specs.Lists.{All}
use Rattle.bytecode.specs.Meaning.{maxima_of}

abbrev pub WireFits : Wire → Type 0
WireFits top = Unit {0}
WireFits (scalar_w k) = k ≤ bits 8
WireFits (flat_w k n) = (k ≤ bits 8) × (n ≤ bits 32)

pub record HeaderFits (h : Header) : Type 0 where
  pub word : h.word ≤ 8
  pub float : h.float ≤ 8
  pub address_log : h.address_log ≤ 6
  pub shared_bytes : h.shared_bytes ≤ bits 32
  pub pool_bytes : h.pool_bytes ≤ bits 32
  pub index_trap : h.index_trap ≤ bits 16
  pub host_trap : h.host_trap ≤ bits 16

pub record SharedFits (s : Shared) : Type 0 where
  pub offset : s.offset ≤ bits 32
  pub kind : s.kind ≤ bits 8
  pub len : s.len ≤ bits 16

pub record PrivateFits (s : Private) : Type 0 where
  pub slot : s.slot ≤ bits 16
  pub offset : s.offset ≤ bits 32

pub record SigFits (g : Sig) : Type 0 where
  pub ret : WireFits g.ret
  pub resume : WireFits g.resume
  pub params : All WireFits g.params
  pub few : length g.params ≤ 16

-- as many numbers as there are maxima, each at most its maximum
abbrev pub Within : List ℕ → List ℕ → Type 0
Within [] [] = Unit {0}
Within [] (n ∷ ns) = ⊥
Within (m ∷ ms) [] = ⊥
Within (m ∷ ms) (n ∷ ns) = (n ≤ m) × Within ms ns

pub record OpFits (o : Op) : Type 0 where
  pub code : o.code < 75
  pub operands : Within (maxima_of o.code) o.operands

abbrev pub ConstFits : ℕ → Type 0
ConstFits k = k ≤ bits 8

abbrev pub EnumFits : ℕ → Type 0
EnumFits n = n ≤ bits 32

pub record CodeFits (c : Code) : Type 0 where
  pub locals : c.locals ≤ 32
  pub consts : All ConstFits c.consts
  pub ops : All OpFits c.ops

pub record ModuleFits (m : Module) : Type 0 where
  pub header : HeaderFits m.header
  pub shareds : All SharedFits m.shareds
  pub privates : All PrivateFits m.privates
  pub enums : All EnumFits m.enums
  pub natives : All WireFits m.natives
  pub sigs : All SigFits m.sigs
  pub chunks : All CodeFits m.chunks
