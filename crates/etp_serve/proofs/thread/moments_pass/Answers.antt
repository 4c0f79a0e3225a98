use Rattle.etp_serve.proofs.thread.moments_pass.Goals as goal

pub returns : goal.returns
returns g c = (g.met.C.Clock g.world.𝓛 g.world.𝓜 g.world.𝓡 (λ s x. x, λ p. p, λ n. n, λ k. k)).tested c.args.clock.now
