use Rattle.std.proofs.Common.{◌≡◌, ◌+◌, ◌∙◌, sym, ap, length, arith}
use Rattle.std.proofs.lemmas.Grind.{common_steps}
use Rattle.etp_values.specs.Weight.{capped, weigh}
use Rattle.channel_store.specs.Told.{change_bytes}
use Rattle.store_machine.specs.News.{fits_behind}
use Rattle.store_machine.specs.Telling.{due_at}
use Rattle.store_machine.proofs.TakingLemmas.{bytes_of, bytes_with, takes_none, takes_some}
use Rattle.store_machine.proofs.news.take_entry.Goals as goal

pub returns-then-not-fits-clause-takes : goal.returns-then-not-fits-clause-takes
returns-then-not-fits-clause-takes c =
    let old = c.args.taken.now.changes.items in
    let due = c.in_ok-due.due.items in
    let bytes : c.saturating_add-bytes.result ≡ capped (weigh change_bytes old + weigh change_bytes due) = grind (arith, common_steps, bytes_with) in
    let size : c.len.result ≡ length old = grind (arith, common_steps) in
    let long : c.len-2.result ≡ length due = grind (arith, common_steps) in
    takes_none (due_at c.args.channels.now c.args.followed.now c.args.place) due old c.in_ok-due.ensures (sym (c.fits.ensures (weigh change_bytes old) due long bytes ∙ ap (λ n. fits_behind n (weigh change_bytes old) due) size) ∙ c.if-not-fits.true)

pub returns-clause-takes : goal.returns-clause-takes
returns-clause-takes c =
    let old = c.args.taken.now.changes.items in
    let due = c.in_ok-due.due.items in
    let bytes : c.saturating_add-bytes.result ≡ capped (weigh change_bytes old + weigh change_bytes due) = grind (arith, common_steps, bytes_with) in
    let size : c.len.result ≡ length old = grind (arith, common_steps) in
    let long : c.len-2.result ≡ length due = grind (arith, common_steps) in
    takes_some (due_at c.args.channels.now c.args.followed.now c.args.place) due old _ c.in_ok-due.ensures (sym (c.fits.ensures (weigh change_bytes old) due long bytes ∙ ap (λ n. fits_behind n (weigh change_bytes old) due) size) ∙ c.if-not-fits.false) c.in_ok-push_all.ensures

pub returns-clause-bytes : goal.returns-clause-bytes
returns-clause-bytes c =
    let old = c.args.taken.now.changes.items in
    let due = c.in_ok-due.due.items in
    let bytes : c.saturating_add-bytes.result ≡ capped (weigh change_bytes old + weigh change_bytes due) = grind (arith, common_steps, bytes_with) in
    bytes_of old due _ c.saturating_add-bytes.result bytes c.in_ok-push_all.ensures
