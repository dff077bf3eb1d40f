-- A piece of a run takes a token, and so does an attachment.
use Rattle.std.proofs.Common.{◌≡◌, ℕ, List, false, refl}
use Rattle.text_forms.specs.Kept.{kept_piece, attachment}
use Rattle.text_forms.specs.Reading.{nullable}

pub piece_takes : (excluded : List (List ℕ)) → nullable (kept_piece excluded) ≡ false
unfolding kept_piece
piece_takes excluded = refl

pub attachment_takes : nullable attachment ≡ false
unfolding attachment
attachment_takes = refl
