-- What was taken, and what is still to be taken, make the front.
use Rattle.std.proofs.Common.{◌≡◌, ◌++◌, ◌-◌, take, drop}
use Rattle.keyed_requests.proofs.request.Findings.split.Given as goal

abbrev pub invariant-loop-i : goal.invariant-loop-i
invariant-loop-i g l = record {
  front : l.out.items ++ take (l.count - l._i) l.self-inside.items.items ≡ take l.count l.fn.self;
  rest : drop (l.count - l._i) l.self-inside.items.items ≡ drop l.count l.fn.self;
}
