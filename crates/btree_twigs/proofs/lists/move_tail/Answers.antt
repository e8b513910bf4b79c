use Rattle.std.proofs.Common.{◌≡◌, ◌++◌, [], ◌∷◌, List, sym, ap, ◌∙◌, reverse, append_assoc}
use Rattle.std.proofs.lemmas.List.{reverse-append}
use Rattle.btree_twigs.specs.declared.twigs.Child.{Child}

moved : (xs bs fs : List Child) (x : Child) (ts : List Child) → fs ++ reverse bs ≡ ts → fs ≡ xs ++ x ∷ [] → xs ++ reverse (bs ++ x ∷ []) ≡ ts
moved xs bs fs x ts h e = rw (reverse-append bs (x ∷ [])) (sym (append_assoc xs (x ∷ []) (reverse bs)) ∙ ap (λ ys. ys ++ reverse bs) (sym e) ∙ h)
