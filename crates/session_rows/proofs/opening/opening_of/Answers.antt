use Rattle.std.proofs.Common.{◌≡◌, ◌≢◌, ◌∙◌, sym, length, arith, rules}
use Rattle.session_rows.specs.Formats.{formats_of}
use Rattle.session_rows.specs.Opening.{accepted_protocols, opening_with, open_session, part_limit}
use Rattle.session_rows.specs.declared.opening.Opening.TheVariants.{Opened}
use Rattle.session_rows.proofs.CaseLemmas.{opened}
use Rattle.session_rows.proofs.opening.opening_of.Goals as goal

pub returns : goal.returns
returns c =
    let protocols = c.in_ok-accepted.accepted in
    let formats = c.in_ok-formats.formats in
    let same_protocols : protocols ≡ accepted_protocols c.args.request.requested_protocols = search rules in
    let same_formats : formats ≡ formats_of c.args.request.supported_formats = search rules in
    let answered : c.in_ok-reply.reply ≡ open_session c.args.config.now c.args.number c.args.moment protocols formats = search rules in
    let some_protocols : length protocols ≢ 0 = omega arith in
    let some_formats : length formats ≢ 0 = omega arith in
    let limit = part_limit c.args.request.endpoint_capabilities in
    let same_limit : c.part_limit-limit.result ≡ limit = c.part_limit-limit.ensures in
    (λ i. Opened protocols formats (same_limit i) (answered i))
    ∙ sym (opened c.args.config.now c.args.number c.args.moment limit protocols formats some_protocols some_formats)
    ∙ (λ i. opening_with c.args.config.now c.args.number c.args.moment limit (same_protocols i) (same_formats i))
