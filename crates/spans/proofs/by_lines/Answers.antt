-- `spans::by_lines` meets its contract: the search over what stands before the lines ends it or passes them, the lines found to agree are passed, and
-- the search goes on behind them.
-- Assumes nothing.
use mathlib.Core.Bool.{Bool}
use mathlib.Core.Path.{◌≡◌, refl, sym, ◌∙◌}
use Prim.Native.Nat.{ℕ, ◌*◌, ◌-◌, ◌/◌, ◌^◌, ◌≤◌, ◌<◌}
use native.Mathlib.Decide.{dec_lt}
use native.Mathlib.Nat.{div-mul-le_self, le_refl, le_trans, mul-le-mul_right}
use native.Mathlib.Omega.{arith}
use Rattle.batches.proofs.Tests.{prepared_kept}
use Rattle.grid_lines.specs.Lines.{last_axis}
use Rattle.lanes.proofs.Stepped.{width-least}
use Rattle.plan.proofs.Numbers as plan
use Rattle.ranges.specs.Search.{first}
use Rattle.ranges.proofs.Search.{first-before, NoneBelow, first_past, first_part}
use Rattle.line_groups.proofs.GridLines.{last-axis-least}
use Rattle.spans.proofs.by_lines.Goals.{Else-saturating_sub-wide, Start}
use Rattle.spans.proofs.by_lines.Goals as goal

-- a line at most the count of the whole lines before `end` starts at `end` or before it
line-most : (u end line : ℕ) → line ≤ end / u → line * u ≤ end
line-most u end line h = le_trans (mul-le-mul_right u h) (div-mul-le_self end u)

-- a search that passes the head goes on behind a span with none
passed :
    (f : ℕ → Bool) (from head q end : ℕ) → from ≤ head → head ≤ q → q ≤ end → head ≤ first f from (head - from) → NoneBelow f head q →
    first f from (end - from) ≡ first f q (end - q)
passed f from head q end low high inside past none =
    first_past f from q end (omega arith) inside
    (λ p l h. elim (dec_lt p head) [ yes before ↦ first-before f from (head - from) p l (omega arith) | no behind ↦ none p (omega arith) h ])

axis-least : (c : Start) → 0 < last_axis c.args.plan
axis-least c =
    let k = c.requires.prepared.planned in
    last-axis-least c.args.plan.axes c.args.plan.d (plan.some_inputs k).0 (plan.enough k) c.args.span.from
    (omega (arith, c.requires.from_lt_end))

end_fits : (c : Start) → c.args.span.end < 2 ^ 64
end_fits c = omega (arith, c.requires.from_lt_end.1, plan.places_fit c.requires.prepared.planned)

-- the first line starts at the span's start or after it, and at its end or before it
record Middle (u from end start : ℕ) : Type 0 where
  order : start ≤ end / u
  after : from ≤ start * u
  before : start * u ≤ end

middle : (c : Else-saturating_sub-wide) → let a = c.args in Middle (last_axis a.plan) a.span.from a.span.end c.lines_from-start.result
middle c =
    let a = c.args in
    let order : c.lines_from-start.result ≤ a.span.end / last_axis a.plan =
    omega (arith, c.if-saturating_sub-wide.false, c.saturating_sub.ensures, width-least c.requires.prepared.width) in
    record { order = order; after = c.lines_from-start.ensures.low; before = line-most (last_axis a.plan) a.span.end _ order }

pub overflow_sub-u : goal.overflow_sub-u
overflow_sub-u c = (plan.some_inputs c.requires.prepared.planned).0

pub offset_bounds-plan-plan : goal.offset_bounds-plan-plan
offset_bounds-plan-plan c = let h = plan.some_inputs c.requires.prepared.planned in omega (arith, h.0, h.1)

pub bounds-plan-plan : goal.bounds-plan-plan
bounds-plan-plan c = let h = plan.some_inputs c.requires.prepared.planned in omega (arith, h.0, h.1)

pub nonzero_div-stop : goal.nonzero_div-stop
nonzero_div-stop c = axis-least (goal.at.nonzero_div-stop c).Start

pub lines_from-start-requires : goal.lines_from-start-requires
lines_from-start-requires c = axis-least (goal.at.lines_from-start-requires c).Start

pub by_batches-requires : goal.by_batches-requires
by_batches-requires c = record { prepared = c.requires.prepared; from_le_end = (omega (arith, c.requires.from_lt_end.0), c.requires.from_lt_end.1) }

pub shape_of-rows-then-saturating_sub-wide : goal.shape_of-rows-then-saturating_sub-wide
shape_of-rows-then-saturating_sub-wide c = c.by_batches.auto.rows

pub shape_of-other-then-saturating_sub-wide : goal.shape_of-other-then-saturating_sub-wide
shape_of-other-then-saturating_sub-wide c = c.by_batches.auto.other

pub returns-then-saturating_sub-wide : goal.returns-then-saturating_sub-wide
returns-then-saturating_sub-wide c = record { found = c.by_batches.ensures; kept = refl }

pub overflow_mul-head : goal.overflow_mul-head
overflow_mul-head c = omega (arith, (middle c).before, end_fits (goal.at.overflow_mul-head c).Start)

pub by_batches-found-requires : goal.by_batches-found-requires
by_batches-found-requires c =
    let mid = middle (goal.at.by_batches-found-requires c).Else-saturating_sub-wide in
    record { prepared = c.requires.prepared; from_le_end = (mid.after, omega (arith, mid.before, c.requires.from_lt_end.1)) }

pub shape_of-rows-then-found-head : goal.shape_of-rows-then-found-head
shape_of-rows-then-found-head c = c.by_batches-found.auto.rows

pub shape_of-other-then-found-head : goal.shape_of-other-then-found-head
shape_of-other-then-found-head c = c.by_batches-found.auto.other

pub returns-then-found-head : goal.returns-then-found-head
returns-then-found-head c =
    let mid = middle (goal.at.returns-then-found-head c).Else-saturating_sub-wide in
    record {
      found =
          c.by_batches-found.ensures
          ∙ sym (first_part _ _ _ c.args.span.end (omega (arith, c.by_batches-found.ensures, c.if-found-head.true, mid.after)) (omega (arith, mid.after, mid.before)));
      kept = refl;
    }

pub agreed_lines-line-requires : goal.agreed_lines-line-requires
agreed_lines-line-requires c =
    let a = c.args in
    let kept = c.by_batches-found.auto in record { prepared = prepared_kept c.requires.prepared _ _ kept.rows kept.other; lists = c.requires.lists; from_le_end = ((middle (goal.at.agreed_lines-line-requires c).Else-saturating_sub-wide).order, le_trans (line-most (last_axis a.plan) a.span.end _ (le_refl _)) c.requires.from_lt_end.1) }

pub overflow_mul-line : goal.overflow_mul-line
overflow_mul-line c = omega (arith, line-most (last_axis c.args.plan) c.args.span.end c.agreed_lines-line.result c.agreed_lines-line.ensures.high, end_fits (goal.at.overflow_mul-line c).Start)

pub by_batches-requires-2 : goal.by_batches-requires-2
by_batches-requires-2 c =
    let kept = c.by_batches-found.auto in
    record { prepared = prepared_kept c.requires.prepared _ _ (c.agreed_lines-line.auto.rows ∙ kept.rows) (c.agreed_lines-line.auto.other ∙ kept.other); from_le_end = (line-most (last_axis c.args.plan) c.args.span.end c.agreed_lines-line.result c.agreed_lines-line.ensures.high, c.requires.from_lt_end.1) }

pub shape_of-rows : goal.shape_of-rows
shape_of-rows c = c.by_batches-2.auto.rows ∙ c.agreed_lines-line.auto.rows ∙ c.by_batches-found.auto.rows

pub shape_of-other : goal.shape_of-other
shape_of-other c = c.by_batches-2.auto.other ∙ c.agreed_lines-line.auto.other ∙ c.by_batches-found.auto.other

pub shape_of-list1 : goal.shape_of-list1
shape_of-list1 c = c.agreed_lines-line.auto.list1

pub shape_of-list2 : goal.shape_of-list2
shape_of-list2 c = c.agreed_lines-line.auto.list2

pub shape_of-flags : goal.shape_of-flags
shape_of-flags c = c.agreed_lines-line.auto.flags

pub returns : goal.returns
returns c =
    let past = c.if-found-head.false in
    let a = c.args in
    let u = last_axis a.plan in
    record {
      found =
          c.by_batches-2.ensures
          ∙ sym
          (passed _ _ (c.lines_from-start.result * u) _ _ (middle (goal.at.returns c).Else-saturating_sub-wide).after (mul-le-mul_right u c.agreed_lines-line.ensures.low)
          (line-most u a.span.end c.agreed_lines-line.result c.agreed_lines-line.ensures.high) (omega (arith, c.by_batches-found.ensures, past)) c.agreed_lines-line.ensures.agree);
      kept = c.agreed_lines-line.ensures.kept;
    }
