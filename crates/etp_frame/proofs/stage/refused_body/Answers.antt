use Rattle.std.proofs.Common.{◌∙◌, refl, arith}
use Rattle.std.proofs.lemmas.List.{length-drop}
use Rattle.etp_frame.proofs.FeedingLemmas.{refused_within, says_refused}
use Rattle.etp_frame.proofs.stage.refused_body.Goals as goal

pub body_error-error-requires : goal.body_error-error-requires
body_error-error-requires c =
    omega (arith, c.requires.front.1, length-drop c.args.front.length c.args.bytes.now, refused_within c.args.front c.args.bytes.now c.args.refusal c.requires.refused)

pub returns-in-Ok : goal.returns-in-Ok
returns-in-Ok c = record {
  says = says_refused c.args.sender c.args.front c.args.bytes.now c.args.refusal c.in-Ok.error c.requires.front c.requires.refused (c.in-Ok.ensures.0 ∙ c.body_error-error.ensures) c.in-Ok.ensures.1;
  has = refl;
  stands = tt;
}
