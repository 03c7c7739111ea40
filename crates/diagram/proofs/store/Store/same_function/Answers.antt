use Rattle.std.proofs.Common.{◌≡◌, true, eqb, sym, ap, ◌∙◌}
use Rattle.std.proofs.lemmas.Bool.{eqb-true, eq-eqb}
use Rattle.diagram.specs.Counted.{Same}
use Rattle.diagram.specs.Tree.{says}
use Rattle.diagram.proofs.Fixing.{same_less, same_more}
use Rattle.diagram.specs.Nodes.{meant}
use Rattle.diagram.specs.Stores.{nodes, meaning}
use Rattle.diagram.proofs.Nodes.{code_inj}
use Rattle.diagram.proofs.Records.{good}
use Rattle.diagram.proofs.store.Store.same_function.Goals as goal

pub returns : goal.returns
returns c =
    let s = c.args.self.now in
    let xs = nodes s in
    let a = c.known.result in
    let b = c.known-2.result in
    let F = meaning s c.args.first in
    let G = meaning s c.args.second in
    let there : eqb a b ≡ true → Same 32 F G = λ e r _. ap (λ t. says t r) (sym c.known.ensures.means ∙ ap (meant xs) (eqb-true a b e) ∙ c.known-2.ensures.means) in
    let back : Same 32 F G → eqb a b ≡ true = λ e. eq-eqb a b (code_inj 32 xs (good s) a b c.known.ensures.within c.known-2.ensures.within
    (λ r h. ap (λ t. says t r) c.known.ensures.means ∙ e r h ∙ sym (ap (λ t. says t r) c.known-2.ensures.means))) in
    record {
      same = (there, back);
      facts = λ n E H h e i ee eh. (
        (λ t. same_less n 32 E H h (λ r b. sym (ee r b) ∙ there t r b ∙ eh r b)),
        λ m. back (λ r b. ee r b ∙ same_more n 32 E H e i m r b ∙ sym (eh r b)),
      );
      codes = λ ha hb. (
        (λ e. sym (c.known.ensures.itself ha) ∙ eqb-true a b e ∙ c.known-2.ensures.itself hb),
        λ e. eq-eqb a b (c.known.ensures.itself ha ∙ e ∙ sym (c.known-2.ensures.itself hb)),
      );
    }
