-- Of two other bytes no version is spelled.
use Rattle.std.proofs.Common.{◌≡◌, inl, inr, arith}
use Rattle.root_codec.specs.Laws.{version_below}
use Rattle.root_codec.proofs.decoding.version_in.Goals as goal

pub returns-in_default-clause-none : goal.returns-in_default-clause-none
returns-in_default-clause-none c = λ version is same.
    let read : c.u16_of.result ≡ version = c.u16_of.ensures.only version (version_below version is) same in
    elim is [ inl e ↦ absurd (omega (arith, read, e)) | inr e ↦ absurd (omega (arith, read, e)) ]
