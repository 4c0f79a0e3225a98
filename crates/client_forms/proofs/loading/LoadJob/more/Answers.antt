use Rattle.std.proofs.Common.{sym, subst}
use Rattle.client_forms.specs.Ctl.{Stage}
use Rattle.client_forms.specs.Filling.{IsLoad, OwesLoad}
use Rattle.client_forms.specs.Jobs.{HasRead}
use Rattle.client_forms.specs.Plans.{Plans}
use Rattle.client_forms.specs.Work.{input, outside}
use Rattle.client_forms.proofs.LoadLemmas.{reading_is}
use Rattle.client_forms.proofs.loading.LoadJob.more.Goals as goal

pub returns-in-Reading-clause-plans : goal.returns-in-Reading-clause-plans
returns-in-Reading-clause-plans g c = λ seen shown job stage rest l told o h.
    let left = g.R.Source.left c.read.new.from in
    let now = c.read.new.self in
    let x = outside l told o (input (g.R.Source.left c.args.from.now) (g.R.Source.faults c.args.from.now)) in
    let y = outside l told o (input left (g.R.Source.faults c.read.new.from)) in
    let k = reading_is c.args.self.now.uri c.args.self.now.stage c.args.self.now.reader job (g.R.Source.left c.args.from.now) stage rest c.in-Reading.is h in
    subst (λ (v : Stage). Plans c.read.result (OwesLoad now.uri now.stage now.reader job left) (IsLoad now.uri now.stage now.reader job left) (HasRead job left) rest v x y) (sym k.1)
    (c.read.ensures.plans seen shown job rest l told o k.0)
