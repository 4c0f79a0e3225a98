use Rattle.std.proofs.Common.{◌≡◌, ◌≤◌, ◌<◌, ◌+◌, slice_range, length, drop, sym, ap, subst, ◌∙◌, add-one, arith}
use Rattle.std.proofs.lemmas.List.{take_all, drop_all}
use Rattle.point_lines.specs.Lines.{Reading, HasGiven}
use Rattle.point_lines.proofs.LineLemmas.{fed_line, last_line, no_line, long_line, ended, still_ended, line_first}
use Rattle.point_lines.proofs.lines.Lines.read_on.Goals as goal

pub returns-in-Feed-clause-goes : goal.returns-in-Feed-clause-goes
returns-in-Feed-clause-goes g c = λ before given h.
    let s = c.self.inside in
    let b = c.refill-ended.new.buf.items in
    let i = c.in-Feed.i in
    let mid = g.R.Source.left c.args.input.now in
    let now = g.R.Source.left c.refill-ended.new.input in
    let r : Reading = record { line = slice_range s.buf.items s.start s.end; ahead = drop s.next s.buf.items; over = s.over } in
    let stood : HasGiven before mid r given = subst (λ v. HasGiven before mid v given) (sym c.self.view_is) h in
    fed_line c.of_length.result i before mid now r b (slice_range b 0 i) (drop (i + 1) b) given c.of_length.ensures c.in-Feed.ensures.bytes.0 c.in-Feed.ensures.bytes.1 (still_ended s.over mid now stood.end c.in-Feed.ensures.same) (line_first b i) (ap (λ n. drop n b) (add-one i)) stood

pub returns-else-len-eq0-clause-goes : goal.returns-else-len-eq0-clause-goes
returns-else-len-eq0-clause-goes g c = λ before given h.
    let s = c.self.inside in
    let b = c.refill-ended.new.buf.items in
    let n = c.len-len.result in
    let mid = g.R.Source.left c.args.input.now in
    let now = g.R.Source.left c.refill-ended.new.input in
    let r : Reading = record { line = slice_range s.buf.items s.start s.end; ahead = drop s.next s.buf.items; over = s.over } in
    let stood : HasGiven before mid r given = subst (λ v. HasGiven before mid v given) (sym c.self.view_is) h in
    let long : n ≡ length b = omega (arith, c.len-len.ensures, c.refill-ended.new.buf.ok.0) in
    let some : 0 < n = omega arith in
    let most : length b ≤ n = omega arith in
    last_line c.of_length-in-Over.result n before mid now r b (slice_range b 0 n) (drop n b) given c.of_length-in-Over.ensures c.in-Over.ensures.bytes.0 c.in-Over.ensures.bytes.1 (ended s.over mid now stood.end c.in-Over.ensures.same c.in-Over.ensures.over) long some (line_first b n ∙ take_all n b most) (drop_all n b most) stood

pub returns-then-len-eq0-clause-goes : goal.returns-then-len-eq0-clause-goes
returns-then-len-eq0-clause-goes g c = λ before given h.
    let s = c.self.inside in
    let b = c.refill-ended.new.buf.items in
    let mid = g.R.Source.left c.args.input.now in
    let now = g.R.Source.left c.refill-ended.new.input in
    let r : Reading = record { line = slice_range s.buf.items s.start s.end; ahead = drop s.next s.buf.items; over = s.over } in
    let stood : HasGiven before mid r given = subst (λ v. HasGiven before mid v given) (sym c.self.view_is) h in
    let nothing : length b ≡ 0 = omega (arith, c.len-len.ensures, c.refill-ended.new.buf.ok.0) in
    no_line before mid now r b given c.in-Over.ensures.bytes.0 (ended s.over mid now stood.end c.in-Over.ensures.same c.in-Over.ensures.over) nothing stood

pub returns-in-TooLong-clause-goes : goal.returns-in-TooLong-clause-goes
returns-in-TooLong-clause-goes g c = λ before given h.
    let s = c.self.inside in
    let b = c.refill-ended.new.buf.items in
    let mid = g.R.Source.left c.args.input.now in
    let now = g.R.Source.left c.refill-ended.new.input in
    let r : Reading = record { line = slice_range s.buf.items s.start s.end; ahead = drop s.next s.buf.items; over = s.over } in
    let stood : HasGiven before mid r given = subst (λ v. HasGiven before mid v given) (sym c.self.view_is) h in
    long_line before mid now r b given c.in-TooLong.ensures.bytes.0 c.in-TooLong.ensures.bytes.1 c.in-TooLong.ensures.bytes.2 stood
