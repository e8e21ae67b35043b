-- The answers are told apart: two results of one meaning are equal. So where a promise gives the meaning, two results that it allows are equal.
-- Assumes nothing.
use Rattle.std.specs.Prelude.{Result, Ok, Err}
use mathlib.Core.Path.{◌≡◌, refl, ap}
use Rattle.layout.specs.Answers.{reply_is, reply, verdict_is, span_is, place_is, field_is, field_answer_is, position_is, point_answer_is}
use Rattle.layout.specs.declared.Refusal.{Refusal}
use Rattle.layout.specs.declared.Span.{Span}
use Rattle.layout.specs.declared.Field.{Field}
use Rattle.layout.specs.declared.Field.TheVariants as field-cases
use Rattle.layout.specs.declared.Point.{Point}

-- a refusal is its number, place and entry
same_refusal : (r s : Refusal) → r.number ≡ s.number → r.place ≡ s.place → r.entry ≡ s.entry → r ≡ s
same_refusal r s n p e = λ i. record { number = n i; place = p i; entry = e i }

pub one-verdict : (v w : Result (Unit {0}) Refusal) → verdict_is v ≡ verdict_is w → v ≡ w
unfolding verdict_is
one-verdict (Ok x) (Ok y) h = refl
one-verdict (Ok x) (Err s) h = cc
one-verdict (Err r) (Ok y) h = cc
one-verdict (Err r) (Err s) h = ap Err (same_refusal r s (cc) (cc) (cc))

-- where two values that say the same are one, so are two results that say the same
pub one-result : {A B : Type 0} (says : A → B) → ((x y : A) → says x ≡ says y → x ≡ y) → (v w : Result A Refusal) → reply_is says v ≡ reply_is says w → v ≡ w
unfolding reply_is
one-result says one (Ok x) (Ok y) h = let e : says x ≡ says y = cc in ap Ok (one x y e)
one-result says one (Ok x) (Err s) h = cc
one-result says one (Err r) (Ok y) h = cc
one-result says one (Err r) (Err s) h = ap Err (same_refusal r s (cc) (cc) (cc))

pub one-reply : {A : Type 0} (v w : Result A Refusal) → reply v ≡ reply w → v ≡ w
one-reply = one-result (λ x. x) (λ x y h. h)

one_span : (v w : Span) → span_is v ≡ span_is w → v ≡ w
one_span v w h = λ i. record { place = (h i).place; length = (h i).length }

pub one_place : (v w : Result Span Refusal) → place_is v ≡ place_is w → v ≡ w
one_place = one-result span_is one_span

pub one_field : (v w : Field) → field_is v ≡ field_is w → v ≡ w
unfolding field_is
one_field (field-cases.Whole a) (field-cases.Whole b) h = ap field-cases.Whole (cc)
one_field (field-cases.Whole a) (field-cases.Single x m) h = cc
one_field (field-cases.Whole a) (field-cases.Double x m) h = cc
one_field (field-cases.Whole a) (field-cases.Time t) h = cc
one_field (field-cases.Single x m) (field-cases.Whole b) h = cc
one_field (field-cases.Single x m) (field-cases.Single y n) h = cc
one_field (field-cases.Single x m) (field-cases.Double y n) h = cc
one_field (field-cases.Single x m) (field-cases.Time t) h = cc
one_field (field-cases.Double x m) (field-cases.Whole b) h = cc
one_field (field-cases.Double x m) (field-cases.Single y n) h = cc
one_field (field-cases.Double x m) (field-cases.Double y n) h = cc
one_field (field-cases.Double x m) (field-cases.Time t) h = cc
one_field (field-cases.Time t) (field-cases.Whole b) h = cc
one_field (field-cases.Time t) (field-cases.Single y n) h = cc
one_field (field-cases.Time t) (field-cases.Double y n) h = cc
one_field (field-cases.Time t) (field-cases.Time u) h =
    let d : t.days ≡ u.days = cc in
    let s : t.seconds ≡ u.seconds = cc in
    let m : t.microseconds ≡ u.microseconds = cc in
    ap field-cases.Time (λ i. record { days = d i; seconds = s i; microseconds = m i })

pub one_field_answer : (v w : Result Field Refusal) → field_answer_is v ≡ field_answer_is w → v ≡ w
one_field_answer = one-result field_is one_field

one_position : (v w : Point) → position_is v ≡ position_is w → v ≡ w
one_position v w h = λ i. record { latitude = (h i).latitude; longitude = (h i).longitude; altitude = (h i).altitude }

pub one_point_answer : (v w : Result Point Refusal) → point_answer_is v ≡ point_answer_is w → v ≡ w
one_point_answer = one-result position_is one_position
