use Rattle.std.proofs.Common.{arith, ◌≡◌, ◌∷◌, ◌++◌, ◌<◌, ◌≤◌, ◌-◌, ◌∙◌, ℕ, List, length, take, drop, replicate, sym, ap, suc, decimal, get_or, drop-cons}
use Rattle.std.proofs.lemmas.List.Concat.{flat_map-cons}
use Rattle.std.specs.List.{flat_map}
use Rattle.std.proofs.lemmas.Fmt.{length-decimal-le}
use Rattle.std.proofs.lemmas.List.{take-append-drop, drop-append-le, take-replicate, drop-replicate, length-replicate, take-take}
use Rattle.grid_report.proofs.text.put_few.Goals as goal

-- from the last blank on there is that blank and what lies behind it
last_blank : (blank room start : ℕ) (bytes behind : List ℕ) → 0 < start → start ≤ room
    → take start bytes ≡ take start (replicate room blank) → drop start bytes ≡ behind → drop (start - 1) bytes ≡ blank ∷ behind
last_blank blank room start bytes behind some short same written =
    let blanks : take start bytes ≡ replicate start blank = same ∙ take-replicate start room blank short in
    let one : start - (start - 1) ≡ 1 = omega arith in
    sym (ap (drop (start - 1)) (take-append-drop start bytes))
    ∙ rw (blanks, written, drop-append-le (start - 1) (replicate start blank) behind (omega (arith, length-replicate start blank)), drop-replicate (start - 1) start blank, one)

-- the same start of two lists stays the same where it is shorter
shorter : (n m : ℕ) (xs ys : List ℕ) → n ≤ m → take m xs ≡ take m ys → take n xs ≡ take n ys
shorter n m xs ys h e = sym (take-take n m xs h) ∙ ap (take n) e ∙ take-take n m ys h

-- a number of 16 bits has at most five digits
five : (n : ℕ) → n < 65536 → length (decimal n) ≤ 5
five n small = length-decimal-le 5 n (omega arith) (omega arith) (omega arith)

-- the numbers from a place on, by the number there
from_place : (separator at : ℕ) (few : List ℕ) → 0 < at → at ≤ length few
    → flat_map (λ n. separator ∷ decimal n) (drop (at - 1) few) ≡ separator ∷ (decimal (get_or few (at - 1) 0) ++ flat_map (λ n. separator ∷ decimal n) (drop at few))
from_place separator at few some within =
    let again : suc (at - 1) ≡ at = omega arith in
    let number = get_or few (at - 1) 0 in
    let parts : drop (at - 1) few ≡ number ∷ drop at few =
    drop-cons few (at - 1) 0 (omega arith) ∙ ap (λ k. number ∷ drop k few) again in
    rw (parts, flat_map-cons (λ n. separator ∷ decimal n) number (drop at few))

pub write_digits-start-requires : goal.write_digits-start-requires
write_digits-start-requires c = let long = five c.from.result (omega arith) in (omega arith, omega arith)

pub overflow_sub-start : goal.overflow_sub-start
overflow_sub-start c = omega (arith, five c.from.result (omega arith))

pub loop-at-preserved : goal.loop-at-preserved
loop-at-preserved c =
    let l = c.loop-at in
    let w = c.write_digits-start in
    let long = five c.from.result (omega arith) in
    let some : 0 < w.result = omega arith in
    let blank : take w.result w.new.buf ≡ take w.result (replicate 96 c.args.separator) =
    w.ensures.before ∙ shorter w.result l.start l.bytes (replicate 96 c.args.separator) (omega arith) l.invariant.blank in
    record {
      room = omega arith;
      within = omega arith;
      blank = shorter (w.result - 1) w.result w.new.buf (replicate 96 c.args.separator) (omega arith) blank;
      written = rw (from_place c.args.separator l.at c.args.few.now c.loop-at-test.true l.auto.at, ← c.from.ensures, ← l.invariant.written)
          (last_blank c.args.separator 96 w.result w.new.buf _ some (omega arith) blank w.ensures.written);
    }
