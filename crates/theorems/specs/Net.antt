-- Need and net: what they say of the height, and that they hang on the name and operands alone.
use Rattle.std.specs.Prelude.{◌≡◌, refl, Bool, true, false, List, [], ◌++◌, map, ◌+◌, ◌-◌, ◌≤◌, length, drop}
use Rattle.std.proofs.Common.{arith, length-append, length-drop}
use Rattle.std.proofs.lemmas.List.{length-map}
use Rattle.definition.specs.Shapes.{Shape}
use Rattle.definition.specs.Instructions.{Chunk, Instr, Shaped, Flat, FlatNested, ElemFlat, ElemNested}
use Rattle.definition.specs.Effects.{Pushed, need, takes, with_bounds, shaped_pushes, pushes, shape_of}
use Rattle.definition.specs.Walk.{State, height, after}
use Rattle.theorems.specs.Facts.{takes-need}

shaped_decided : (c : Chunk) (i : Shaped) (st ls : List Shape) → length (shaped_pushes c i st ls) ≡ length (shaped_pushes c i [] [])
unfolding shaped_pushes
shaped_decided c (Shaped.Const k) st ls = refl
shaped_decided c (Shaped.GetLocal k) st ls = refl
shaped_decided c (Shaped.BoundsCheck k) st ls = refl
shaped_decided c (Shaped.IsStruct k) st ls = refl
shaped_decided c (Shaped.GetDataIndexed a b) st ls = refl
shaped_decided c (Shaped.SetDataIndexed a b) st ls = refl
shaped_decided c (Shaped.Native k n) st ls = refl
shaped_decided c (Shaped.IsEnum a b d) st ls = refl
shaped_decided c Shaped.Dup st ls = refl
shaped_decided c Shaped.Yield st ls = refl
shaped_decided c Shaped.IndexBoxed st ls = refl

bounds_length : (b : Bool) (p q : Pushed) → length (with_bounds b p) ≡ length (with_bounds b q)
unfolding with_bounds
bounds_length true p q = refl
bounds_length false p q = refl

-- How many operands an instruction pushes hangs on its name and operands, and not on the operands and locals that it finds.
pub pushes_decided : (c : Chunk) (i : Instr) (st ls : List Shape) → length (pushes c i st ls) ≡ length (pushes c i [] [])
unfolding pushes
pushes_decided c (Instr.plain p a) st ls = refl
pushes_decided c (Instr.shaped i) st ls = shaped_decided c i st ls
pushes_decided c (Instr.jump j) st ls = refl
pushes_decided c (Instr.PopN n) st ls = refl
pushes_decided c (Instr.SetLocal k) st ls = refl
pushes_decided c (Instr.Call k n) st ls = refl
pushes_decided c (Instr.NewFlat k n s) st ls = refl
pushes_decided c (Instr.NewBoxed k n m) st ls = refl
pushes_decided c (Instr.GetFlat o (Flat at k)) st ls = refl
pushes_decided c (Instr.GetFlat o (FlatNested at n k)) st ls = refl
pushes_decided c (Instr.GetBoxed o n) st ls = refl
pushes_decided c (Instr.GetIndex (ElemFlat k)) st ls = refl
pushes_decided c (Instr.GetIndex (ElemNested n k)) st ls = bounds_length true _ _

-- So the height after an instruction that has the operands it needs is the height before, less what it takes, and what it pushes: by its net.
pub height-after : (c : Chunk) (i : Instr) (s : State) → need c i ≤ height s → height (after c i s) + takes c i ≡ height s + length (pushes c i [] [])
unfolding after
height-after c i s h =
    let t : takes c i ≤ need c i = takes-need c i in
    let p : length (pushes c i s.stack s.locals) ≡ length (pushes c i [] []) = pushes_decided c i s.stack s.locals in
    let m : length (map shape_of (pushes c i s.stack s.locals)) ≡ length (pushes c i s.stack s.locals) =
    length-map (pushes c i s.stack s.locals) shape_of in
    let d : length (drop (takes c i) s.stack) ≡ length s.stack - takes c i = length-drop (takes c i) s.stack in
    let a : length (map shape_of (pushes c i s.stack s.locals) ++ drop (takes c i) s.stack)
    ≡ length (map shape_of (pushes c i s.stack s.locals)) + length (drop (takes c i) s.stack) =
    length-append (map shape_of (pushes c i s.stack s.locals)) (drop (takes c i) s.stack) in
    omega arith
