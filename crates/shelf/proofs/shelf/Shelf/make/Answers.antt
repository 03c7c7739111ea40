use Rattle.std.proofs.Common.{◌≡◌, ℕ, ◌-◌, min, List, length, take, replicate, ap, ◌∙◌, arith, length-take}
use Rattle.effects.specs.Codes.{codes, question_codes}
use Rattle.effects.proofs.Closing.{closed}
use Rattle.probing.proofs.Blank.{blank_name}
use Rattle.probing.specs.Table.{free}
use Rattle.probing.specs.declared.name.Name.{Name}
use Rattle.probing.specs.declared.node.Node.{Node}
use Rattle.shelf.specs.Catalogue.{at_making}
use Rattle.shelf.proofs.Made.{made}
use Rattle.shelf.proofs.Upholding.{in_state}
use Rattle.shelf.proofs.shelf.Shelf.make.Goals as goal

-- the first slots, as many as are used
part : {A : Type 0} (xs : List A) (k m : ℕ) → k ≡ min (length xs) m → length (take (k - 0) xs) ≡ min (length xs) m
part xs k m e = omega (arith, length-take (k - 0) xs)

pub invariant_of-result : goal.invariant_of-result
invariant_of-result g c =
    let M = g.A.EffectAlgebra.effects in
    let K = codes M in
    let Q = question_codes M g.A.EffectAlgebra.questions in record {
      stands = ∣ (
        K,
        (
          Q,
          (
            at_making c.args.number (length c.args.nodes.now) (length c.args.names.now),
            in_state (made K Q c.args.number (length c.args.nodes.now) (length c.args.names.now) c.new.result c.new-2.result c.effect_tables.result c.question_tables.result c.empty.result
                (record { closed = closed M g.met.A.EffectAlgebra.lawful; tables_are = c.effect_tables.ensures; questions_are = c.question_tables.ensures })
                c.new.ensures.listed (c.new.ensures.width ∙ part c.args.names.now _ 32 c.min-facts.ensures) (omega arith) c.new-2.ensures.bare (c.new-2.ensures.width ∙ part c.args.nodes.now _ 65520 c.min-slots.ensures) c.new-2.ensures.recorded) c.new-3.ensures,
          ),
        ),
      ) ∣₁;
    }

pub returns : goal.returns
returns g c =
    let M = g.A.EffectAlgebra.effects in
    let K = codes M in
    let Q = question_codes M g.A.EffectAlgebra.questions in
    record {
      stands = in_state (made K Q c.args.number (length c.args.nodes.now) (length c.args.names.now) c.new.result c.new-2.result c.effect_tables.result c.question_tables.result c.empty.result
          (record { closed = closed M g.met.A.EffectAlgebra.lawful; tables_are = c.effect_tables.ensures; questions_are = c.question_tables.ensures })
          c.new.ensures.listed (c.new.ensures.width ∙ part c.args.names.now _ 32 c.min-facts.ensures) (omega arith) c.new-2.ensures.bare (c.new-2.ensures.width ∙ part c.args.nodes.now _ 65520 c.min-slots.ensures) c.new-2.ensures.recorded) c.new-3.ensures;
      nodes = c.new-2.ensures.blank ∙ ap (λ n. replicate n (free {K = Node} (record { fact = 0; low = 0; high = 0 }))) (part c.args.nodes.now _ 65520 c.min-slots.ensures);
      names =
          c.new.ensures.blank
          ∙ ap (λ (x : Name). replicate (length (take (c.min-facts.result - 0) c.args.names.now)) (free x)) (blank_name c.default.result c.default.ensures)
          ∙ ap (λ n. replicate n (free {K = Name} (record { len = 0; bytes = replicate 16 0 }))) (part c.args.names.now _ 32 c.min-facts.ensures);
    }
