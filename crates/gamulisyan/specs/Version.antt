-- The version of this archive; `./release` stamps it, here, in src/lib.rt and in include/gamulisyan.h.
use Rattle.std.specs.Prelude.{ℕ, ◌≡◌, refl}
use Rattle.std.proofs.Common.{sym, ◌∙◌}

-- major * 1,000,000 + minor * 1,000 + patch; 0 is no release
abbrev pub version : ℕ
version = 0

-- one answer: two results that the promise allows are equal
pub one_version : {r s : ℕ} → r ≡ version → s ≡ version → r ≡ s
one_version p q = p ∙ sym q

-- .. and there is one
pub some_version : (r : ℕ) × (r ≡ version)
some_version = (version, refl)
