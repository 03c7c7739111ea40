use Rattle.std.proofs.Common.{◌≡◌, ℕ, ◌<◌, Bool, List, map, length, sym, ap, ◌∙◌, arith}
use Rattle.std.specs.Str.{bytes_eq}
use Rattle.probing.specs.Kinds.{fold_byte, text, name_same}
use Rattle.probing.specs.declared.name.Name.{Name}
use Rattle.probing.proofs.Texts.{same_lengths, same_more, same_stops, same_all}
use Rattle.probing.proofs.name.NamePartialEq.eq.Goals as goal

-- what the texts answer, the names do
as_texts : (x y : Name) (xs ys : List ℕ) (b : Bool) → xs ≡ text x → ys ≡ text y → bytes_eq (map fold_byte xs) (map fold_byte ys) ≡ b → b ≡ name_same x y
as_texts x y xs ys b e f r =
    sym r
    ∙ ap (λ (t : List ℕ). bytes_eq (map fold_byte t) (map fold_byte ys)) e
    ∙ ap (λ (t : List ℕ). bytes_eq (map fold_byte (text x)) (map fold_byte t)) f

pub returns-then-mine-theirs : goal.returns-then-mine-theirs
returns-then-mine-theirs c =
    let xs = c.text-mine.result.now in
    let ys = c.text-theirs.result.now in
    as_texts c.args.self.now c.args.other.now xs ys _ c.text-mine.ensures c.text-theirs.ensures (same_lengths fold_byte xs ys c.if-mine-theirs.true)

pub returns-then-fold_byte : goal.returns-then-fold_byte
returns-then-fold_byte c =
    let xs = c.text-mine.result.now in
    let ys = c.text-theirs.result.now in
    let i = c.loop-i.i in
    let l : i < length ys = omega (arith, c.loop-i-test.true, c.if-mine-theirs.false) in
    as_texts c.args.self.now c.args.other.now xs ys _ c.text-mine.ensures c.text-theirs.ensures
    (sym c.loop-i.invariant ∙ same_stops fold_byte xs ys i c.loop-i-test.true l (λ e. c.if-fold_byte.true (c.fold_byte.ensures ∙ e ∙ sym c.fold_byte-in-loop-i.ensures)))

pub loop-i-preserved : goal.loop-i-preserved
loop-i-preserved c =
    let xs = c.text-mine.result.now in
    let ys = c.text-theirs.result.now in
    let i = c.loop-i.i in
    let l : i < length ys = omega (arith, c.loop-i-test.true, c.if-mine-theirs.false) in
    same_more fold_byte xs ys i c.loop-i-test.true l (sym c.fold_byte.ensures ∙ c.if-fold_byte.false ∙ c.fold_byte-in-loop-i.ensures)
    ∙ c.loop-i.invariant

pub returns : goal.returns
returns c =
    let xs = c.text-mine.result.now in
    let ys = c.text-theirs.result.now in
    as_texts c.args.self.now c.args.other.now xs ys _ c.text-mine.ensures c.text-theirs.ensures
    (sym c.loop-i.invariant ∙ same_all fold_byte xs ys c.loop-i.i c.loop-i-test.false (omega (arith, c.loop-i-test.false, c.if-mine-theirs.false)))
