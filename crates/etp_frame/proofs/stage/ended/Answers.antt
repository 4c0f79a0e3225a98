use Rattle.std.proofs.Common.{drop, refl, arith}
use Rattle.std.proofs.lemmas.List.{length-drop}
use Rattle.avro_bin.specs.Laws.{node_limit}
use Rattle.etp_schema.specs.Shapes.{shape_at}
use Rattle.etp_frame.proofs.CheckLemmas.{end_within}
use Rattle.etp_frame.proofs.FeedingLemmas.{says_whole, says_rest}
use Rattle.etp_frame.proofs.stage.ended.Goals as goal

pub overflow_add-end : goal.overflow_add-end
overflow_add-end c =
    omega (arith, c.len-size.ensures, c.requires.front.1, length-drop c.args.front.length c.args.bytes.items, end_within (shape_at c.args.front.place) node_limit (drop c.args.front.length c.args.bytes.items) c.args.length c.requires.ended)

pub returns-then-end-size : goal.returns-then-end-size
returns-then-end-size c = record {
  says = says_rest c.args.sender c.args.front c.args.bytes.items c.args.length c.requires.front c.requires.ended (λ same. omega (arith, same, c.if-end-size.true, c.len-size.ensures));
  has = refl;
  stands = tt;
}

pub returns : goal.returns
returns c = record {
  says = says_whole c.args.sender c.args.front c.args.bytes.items c.args.length c.requires.front c.requires.ended (omega (arith, c.if-end-size.false, c.len-size.ensures));
  has = refl;
  stands = (c.requires.front, c.requires.stands);
}
