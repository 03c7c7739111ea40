use Rattle.std.proofs.Common.{length}
use Rattle.shelf.specs.Catalogue.{at_making}
use Rattle.shelf.proofs.runner.run.Goals as goal

pub returns : goal.returns
returns g c =
    let d = c.run_on.ensures.law (at_making c.args.number (length c.args.nodes.now) (length c.args.names.now)) c.make-shelf.ensures.stands in
    record {
      many = c.run_on.ensures.many;
      law = (c.make-shelf.result, (c.run_on.new.shelf, (d.0, d.1)));
      beyond = c.run_on.ensures.beyond;
      blank = c.run_on.ensures.blank;
    }
