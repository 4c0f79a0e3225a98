use Rattle.std.proofs.Common.{◌≡◌, ℕ, List, Option, true, refl, sym, subst, inl, inr, arith}
use Rattle.etp_outside.specs.Told.{Told}
use Rattle.etp_outside.proofs.FaultLemmas.{rose_later}
use Rattle.store_hub.specs.Passes.{known, config_of}
use Rattle.server_forms.proofs.ServingLemmas.{most_from, most_same, reached_from, served_from, served_none}
use Rattle.server_forms.proofs.run.serve_at.Goals as goal

pub returns-in-Done-clause-all : goal.returns-in-Done-clause-all
returns-in-Done-clause-all g c =
    let L = g.A.Listener in
    served_from c.serve_all.result (g.C.Clock.passes c.args.clock.now) (config_of c.args.hub.now) (known c.args.pass.now) (known c.serve_all.new.pass) (L.given c.listen.new.self) (L.given c.args.door.now) (L.given c.serve_all.new.door)
    (L.backs c.args.door.now) (L.backs c.listen.new.self) (L.backs c.serve_all.new.door) c.listen.ensures.given c.listen.ensures.backs c.serve_all.ensures.all

pub returns-in-Done-clause-most : goal.returns-in-Done-clause-most
returns-in-Done-clause-most g c =
    let L = g.A.Listener in
    most_from c.args.most (L.given c.listen.new.self) (L.given c.args.door.now) (L.given c.serve_all.new.door) c.listen.ensures.given c.serve_all.ensures.most

pub returns-in-Done-clause-there : goal.returns-in-Done-clause-there
returns-in-Done-clause-there g c =
    let at = g.A.Listener.at in
    inr (subst (λ (place : Option (List ℕ)). Told (at c.args.door.now) place (λ old new. new ≡ c.args.address.now)) (sym c.serve_all.ensures.at) (c.in-Done.ensures.at refl))

pub returns-in-Done-clause-over : goal.returns-in-Done-clause-over
returns-in-Done-clause-over g c = λ is.
    let L = g.A.Listener in
    reached_from c.args.most (L.given c.listen.new.self) (L.given c.args.door.now) (L.given c.serve_all.new.door) (L.stopped c.serve_all.new.door ≡ true) c.listen.ensures.given (c.serve_all.ensures.stop is)

pub returns-in-Done-clause-kept : goal.returns-in-Done-clause-kept
returns-in-Done-clause-kept g c = omega (arith, c.listen.ensures.kept, c.serve_all.ensures.kept)

pub returns-in-Done-clause-cause : goal.returns-in-Done-clause-cause
returns-in-Done-clause-cause g c = λ is.
    let L = g.A.Listener in
    rose_later (L.faults c.args.door.now) (L.faults c.listen.new.self) (L.faults c.serve_all.new.door) c.listen.ensures.kept (c.serve_all.ensures.cause is)

pub returns-in-Failed-clause-all : goal.returns-in-Failed-clause-all
returns-in-Failed-clause-all g c =
    let L = g.A.Listener in
    served_none (g.C.Clock.passes c.args.clock.now) (config_of c.args.hub.now) (known c.args.pass.now) (L.given c.args.door.now) (L.given c.listen.new.self) (L.backs c.args.door.now) (L.backs c.listen.new.self) c.listen.ensures.given c.listen.ensures.backs

pub returns-in-Failed-clause-most : goal.returns-in-Failed-clause-most
returns-in-Failed-clause-most g c = most_same c.args.most (g.A.Listener.given c.args.door.now) (g.A.Listener.given c.listen.new.self) c.listen.ensures.given

pub returns-in-Failed-clause-there : goal.returns-in-Failed-clause-there
returns-in-Failed-clause-there g c = inl c.listen.ensures.given

pub returns-in-Failed-clause-over : goal.returns-in-Failed-clause-over
returns-in-Failed-clause-over g c = λ is. absurd (cc is)

pub returns-in-Failed-clause-cause : goal.returns-in-Failed-clause-cause
returns-in-Failed-clause-cause g c = λ is. c.in-Failed.ensures.cause refl
