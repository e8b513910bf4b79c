use Rattle.std.proofs.Common.{◌≡◌, List, ℕ, ◌-◌, length, take, drop, replicate, arith, subst, refl, sym, ap, ◌∙◌}
use Rattle.std.specs.List.{IsSplitAt}
use Rattle.std.proofs.lemmas.Bool.{false≢true}
use Rattle.std.proofs.lemmas.List.{length-replicate}
use Rattle.std.proofs.lemmas.Option.{IfSome_then}
use Rattle.volume_table.specs.Names.{IsName, name_bytes}
use Rattle.volume_table.proofs.NameLaws.{field_spelled, field_parts, some_name}
use Rattle.volume_table.proofs.name.Name.of_field.Goals as goal

-- the parts of what stands behind the first byte
cut_of : (field rest : List ℕ) (len : ℕ) (text zeros : List ℕ) → rest ≡ drop 1 field → IsSplitAt rest len text zeros → IsSplitAt (drop 1 field) len text zeros
cut_of field rest len text zeros is-rest cut = subst (λ (xs : List ℕ). IsSplitAt xs len text zeros) is-rest cut

pub returns-in_err-text-clause-only : goal.returns-in_err-text-clause-only
returns-in_err-text-clause-only c name is same =
    let parts = field_parts c.args.field.now name is.most same in
    absurd (omega (arith, c.in_err-text.ensures.cases, ap length c.split_at.ensures.back, parts.first, parts.rest, is.most))

pub returns-then-are_zero-clause-found : goal.returns-then-are_zero-clause-found
returns-then-are_zero-clause-found c =
    let cut = cut_of c.args.field.now c.split_at.result.1.now _ c.in_ok-text.text.now c.in_ok-text.zeros.now c.split_at.ensures.back c.in_ok-text.ensures.cases in
    IfSome_then c.new.result c.new.ensures.found (λ name found.
    let spelled : c.args.field.now ≡ name_bytes c.in_ok-text.text.now =
    field_spelled c.args.field.now c.in_ok-text.text.now c.in_ok-text.zeros.now _ c.requires refl found.1.most cut.0 cut.1 cut.2 (c.if-are_zero.ensures.0 refl) in
    (subst IsName (sym found.0) found.1, spelled ∙ ap name_bytes (sym found.0)))

pub returns-then-are_zero-clause-only : goal.returns-then-are_zero-clause-only
returns-then-are_zero-clause-only c name is same =
    let parts = field_parts c.args.field.now name is.most same in
    let cut = cut_of c.args.field.now c.split_at.result.1.now _ c.in_ok-text.text.now c.in_ok-text.zeros.now c.split_at.ensures.back c.in_ok-text.ensures.cases in
    let text : c.in_ok-text.text.now ≡ name = cut.1 ∙ ap (λ (n : ℕ). take n (drop 1 c.args.field.now)) parts.first ∙ parts.text in
    some_name c.new.result c.in_ok-text.text.now name c.new.ensures.found c.new.ensures.none text is

pub returns-else-are_zero-clause-only : goal.returns-else-are_zero-clause-only
returns-else-are_zero-clause-only c name is same =
    let parts = field_parts c.args.field.now name is.most same in
    let cut = cut_of c.args.field.now c.split_at.result.1.now _ c.in_ok-text.text.now c.in_ok-text.zeros.now c.split_at.ensures.back c.in_ok-text.ensures.cases in
    let zeros : c.in_ok-text.zeros.now ≡ replicate (47 - length name) 0 = cut.2 ∙ ap (λ (n : ℕ). drop n (drop 1 c.args.field.now)) parts.first ∙ parts.zeros in
    let size : length c.in_ok-text.zeros.now ≡ 47 - length name = ap length zeros ∙ length-replicate {A = ℕ} (47 - length name) 0 in
    absurd (false≢true (c.if-are_zero.ensures.1 (zeros ∙ ap (λ (n : ℕ). replicate n 0) (sym size))))
