use Rattle.std.proofs.Common.{◌≡◌, drop}
use Rattle.token_text.specs.Arguments.{fits as fits_of}
use Rattle.token_text.proofs.write_argument.fits.Given as goal

-- whether all fits is whether the rest fits
abbrev pub invariant-loop-part : goal.invariant-loop-part
invariant-loop-part l = fits_of (drop l.part-index l.parts) l.rest ≡ fits_of l.parts l.args
