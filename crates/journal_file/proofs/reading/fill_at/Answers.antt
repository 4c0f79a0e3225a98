use Rattle.std.proofs.Common.{rules, ◌≡◌, ◌+◌, ◌-◌, ◌++◌, ◌∙◌, ℕ, List, length, take, drop, ap, sym, subst, arith}
use Rattle.std.proofs.lemmas.List.{drop-drop}
use Rattle.std.proofs.Math.Seq.{take-add}
use Rattle.std.specs.declared.option.Option.{Option}
use Rattle.etp_outside.proofs.PartLemmas.{take_put}
use Rattle.etp_outside.specs.declared.source.ReadOutcome.TheVariants.{Got}
use Rattle.journal_disk.specs.Disks.{ReadsAt}
use Rattle.journal_file.proofs.OpeningLemmas.{rested_call, rested_trans}
use Rattle.journal_file.proofs.reading.fill_at.Goals as goal

pub loop-done-preserved : goal.loop-done-preserved
loop-done-preserved g c =
    let inv = c.loop-done.invariant in
    let at = c.args.at in
    let done = c.loop-done.done in
    let count = c.in-Got.count in
    let piece = c.read_at.new.buf in
    let more = take_put done (length c.loop-done.buf - done) count c.loop-done.buf piece inv.within c.in-Got.ensures.count.1 in
    let only_now = (g.met.D.Disk g.world.𝓛 g.world.𝓜 g.world.𝓡 (λ s x. x, λ p. p, λ n. n, λ k. k)).only_now in
    record {
      within = search rules;
      size = search rules;
      bytes = λ f is.
          let read : take count piece ≡ take count (drop (at + done) f) = subst (λ (o : Option (List ℕ)). ReadsAt (Got count) (at + done) piece o) (inv.rested.same ∙ is) c.in-Got.ensures.bytes in
          more
          ∙ ap (λ (l : List ℕ). l ++ take count piece) (inv.bytes f is)
          ∙ ap (λ (l : List ℕ). take done (drop at f) ++ l) (read ∙ ap (λ (l : List ℕ). take count l) (sym (drop-drop done at f)))
          ∙ sym (take-add done count (drop at f));
      rested = rested_trans g.D.Disk.seen g.D.Disk.may_leave g.D.Disk.moment g.D.Disk.left_since c.args.disk.now c.loop-done.disk c.read_at.new.self inv.rested
          (rested_call g.D.Disk.seen g.D.Disk.may_leave g.D.Disk.moment g.D.Disk.left_since only_now c.loop-done.disk c.read_at.new.self c.in-Got.ensures.seen c.in-Got.ensures.crash c.in-Got.ensures.time);
      kept = omega (arith, inv.kept, c.in-Got.ensures.kept);
    }
