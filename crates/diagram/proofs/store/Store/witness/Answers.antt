use Rattle.std.proofs.Common.{sym, subst, subst₂, arith, rules}
use Rattle.diagram.specs.Tree.{says}
use Rattle.diagram.specs.Nodes.{meant}
use Rattle.diagram.specs.Requests.{Witness}
use Rattle.diagram.specs.Questions.{Breaks, Searched}
use Rattle.diagram.specs.Stores.{nodes}
use Rattle.diagram.proofs.Nodes.{tree_neat}
use Rattle.diagram.proofs.First.{first_all, first_facts, first_same}
use Rattle.diagram.proofs.Records.{good}
use Rattle.diagram.proofs.store.Store.witness.Goals as goal

pub search-requires : goal.search-requires
search-requires c =
    let s = c.args.self.now in
    record {
      first_below = c.known-a.ensures.within;
      second_below = c.known-b.ensures.within;
      from_below = omega arith;
      first_later = tree_neat 32 (nodes s) (good s) c.known-a.result c.known-a.ensures.within;
      second_later = tree_neat 32 (nodes s) (good s) c.known-b.result c.known-b.ensures.within;
      searched = subst (Searched 32 c.args.question.now (nodes s)) (sym c.new-seen.ensures.listed) tt;
    }

pub returns : goal.returns
returns c =
    let s = c.args.self.now in
    let q = c.args.question.now in
    let w : Witness 32 (Breaks q (says (meant (nodes s) c.args.first)) (says (meant (nodes s) c.args.second))) c.search.result =
    subst₂ (λ t u. Witness 32 (Breaks q (says t) (says u)) c.search.result) c.known-a.ensures.means c.known-b.ensures.means
    (first_all 32 (Breaks q (says (meant (nodes s) c.known-a.result)) (says (meant (nodes s) c.known-b.result))) c.search.result c.search.ensures.finds) in
    record {
      first = w;
      facts = λ n F G h f g ef eg. first_facts n 32 h q F G f g c.search.result
          (first_same 32 q (says (meant (nodes s) c.args.first)) (says (meant (nodes s) c.args.second)) F G ef eg c.search.result w);
      blank = search rules;
    }
