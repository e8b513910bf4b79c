use Rattle.std.proofs.Common.{◌++◌, ◌<◌, ◌^◌, ℕ, List, decimal, ap, subst, ◌∙◌, codes}
use Rattle.std.specs.List.{AllByRecursion}
use Rattle.serde_json.specs.Written.{compact_text}
use Rattle.sdbt_base.specs.declared.lists.Unkept.{Unkept}
use Rattle.sdbt_base.specs.Traces.{Traced}
use Rattle.cert_codec.specs.Text.{numbers, array_of, added_json, never_json, PageFits, TracedFits}
use Rattle.cert_codec.proofs.Writes.{entry_pieces}
use Rattle.cert_codec.proofs.writing.line.Goals as goal

pub returns-clause-entry : goal.returns-clause-entry
returns-clause-entry c =
    let cert = c.args.cert.now in
    let s0 = c.in_ok-append.ensures ∙ ap (λ out. out ++ codes "\n{\"added\":") c.new-out.ensures in
    let s1 = c.in_ok-push_added.ensures.text ∙ ap (λ v. c.append.new.self ++ compact_text (array_of added_json v)) c.added.ensures ∙ ap (λ out. out ++ (compact_text (array_of added_json cert.added))) s0 in
    let s2 = c.in_ok-append-2.ensures ∙ ap (λ out. out ++ codes ",\"base\":") s1 in
    let s3 = c.in_ok-push_number.ensures.text ∙ ap (λ v. c.append-2.new.self ++ decimal v) c.base.ensures ∙ ap (λ out. out ++ (decimal cert.base)) s2 in
    let s4 = c.in_ok-append-3.ensures ∙ ap (λ out. out ++ codes ",\"commit\":") s3 in
    let s5 = c.in_ok-push_number-2.ensures.text ∙ ap (λ v. c.append-3.new.self ++ decimal v) c.commit.ensures ∙ ap (λ out. out ++ (decimal cert.commit)) s4 in
    let s6 = c.in_ok-append-4.ensures ∙ ap (λ out. out ++ codes ",\"gone\":") s5 in
    let s7 = c.in_ok-push_numbers.ensures.text ∙ ap (λ v. c.append-4.new.self ++ compact_text (numbers v)) c.gone.ensures ∙ ap (λ out. out ++ (compact_text (numbers cert.gone))) s6 in
    let s8 = c.in_ok-append-5.ensures ∙ ap (λ out. out ++ codes ",\"head\":") s7 in
    let s9 = c.in_ok-push_number-3.ensures.text ∙ ap (λ v. c.append-5.new.self ++ decimal v) c.head.ensures ∙ ap (λ out. out ++ (decimal cert.head)) s8 in
    let s10 = c.in_ok-append-6.ensures ∙ ap (λ out. out ++ codes ",\"never\":") s9 in
    let s11 = c.in_ok-push_never.ensures.text ∙ ap (λ v. c.append-6.new.self ++ compact_text (array_of never_json v)) c.never.ensures ∙ ap (λ out. out ++ (compact_text (array_of never_json cert.never))) s10 in
    let s12 = c.in_ok-append-7.ensures ∙ ap (λ out. out ++ codes ",\"root\":") s11 in
    let s13 = c.in_ok-push_number-4.ensures.text ∙ ap (λ v. c.append-7.new.self ++ decimal v) c.root.ensures ∙ ap (λ out. out ++ (decimal cert.root)) s12 in
    let s14 = c.in_ok-append-8.ensures ∙ ap (λ out. out ++ codes "}\n") s13 in
    s14 ∙ entry_pieces cert

pub returns-clause-in_range : goal.returns-clause-in_range
returns-clause-in_range c = record {
  commit = subst (λ (n : ℕ). n < 2 ^ 64) c.commit.ensures c.in_ok-push_number-2.ensures.fits;
  base = subst (λ (n : ℕ). n < 2 ^ 64) c.base.ensures c.in_ok-push_number.ensures.fits;
  head = subst (λ (n : ℕ). n < 2 ^ 64) c.head.ensures c.in_ok-push_number-3.ensures.fits;
  root = subst (λ (n : ℕ). n < 2 ^ 64) c.root.ensures c.in_ok-push_number-4.ensures.fits;
  added = subst (λ (xs : List Traced). AllByRecursion TracedFits xs) c.added.ensures c.in_ok-push_added.ensures.fits;
  gone = subst (λ (xs : List ℕ). AllByRecursion (λ n. n < 2 ^ 64) xs) c.gone.ensures c.in_ok-push_numbers.ensures.fits;
  never = subst (λ (xs : List Unkept). AllByRecursion PageFits xs) c.never.ensures c.in_ok-push_never.ensures.fits;
}
