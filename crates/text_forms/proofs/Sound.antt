-- What is read is spelled so.
use Rattle.std.proofs.Common.{◌≡◌, true, not, ◌&&◌, ◌||◌, length}
use Rattle.std.proofs.lemmas.Bool.{and_parts}
use Rattle.text_forms.specs.Form.{Form, exactly, one, one_such, ahead, enclosed, up_to, pair, either, mapped, made, optional, many, by_word, Spells}
use Rattle.text_forms.specs.Reading.{nullable, first, after, opens, read, decides, all_apart}
pub use Rattle.text_forms.proofs.Parts.{Takes, Sound, bind_some}
use Rattle.text_forms.proofs.Parts.{for_entry, exactly_sound, one_sound, one_such_sound, enclosed_sound, up_to_sound, ahead_sound, pair_sound, either_sound, mapped_sound, made_sound, by_word_sound, optional_sound, each_sound}

pub sound : {A : Type 0} (f : Form A) → decides f ≡ true → Sound (Spells f) (read f)
sound (exactly k s) d = exactly_sound k s
sound (one k) d = one_sound k
sound (enclosed o c) d = enclosed_sound o c
sound (up_to st) d = up_to_sound st
sound (one_such k p) d = one_such_sound k p
sound (ahead k f) d = ahead_sound k (Spells f) (read f) (sound f d)
sound (pair f g) d =
    let p = and_parts (decides f) (decides g && all_apart (after f) (first g)) d in
    let q = and_parts (decides g) (all_apart (after f) (first g)) p.1 in
    pair_sound (Spells f) (Spells g) (read f) (read g) (sound f p.0) (sound g q.0)
sound (either f g) d =
    let p = and_parts (decides f) (decides g && (not (nullable f || nullable g) && all_apart (first f) (first g))) d in
    let q = and_parts (decides g) (not (nullable f || nullable g) && all_apart (first f) (first g)) p.1 in
    either_sound (Spells f) (Spells g) (opens f) (read f) (read g) (sound f p.0) (sound g q.0)
sound (mapped h f) d = mapped_sound (Spells f) h (read f) (sound f d)
sound (made h f) d = made_sound (Spells f) h (read f) (sound f d)
sound (by_word table f) d = by_word_sound table (λ k. Spells (f k)) (λ k ts. read (f k) ts) (λ w k e. sound (f k) (for_entry table (λ k. decides (f k)) w k e d))
sound (optional f) d = let p = and_parts (decides f) (not (nullable f)) d in optional_sound (Spells f) (opens f) (read f) (sound f p.0)
sound (many f) d = λ ts x e. let p = and_parts (decides f) (not (nullable f) && all_apart (after f) (first f)) d in each_sound (Spells f) (opens f) (read f) (sound f p.0) (length ts) ts x e
