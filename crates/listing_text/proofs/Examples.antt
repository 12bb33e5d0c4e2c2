-- Texts computed: document 01's example, and texts that are near to one and are not of the form. Assumes nothing.
use mathlib.Core.Path.{◌≡◌, refl}
use mathlib.Core.List.{List, [], ◌∷◌, ◌++◌}
use mathlib.Core.Bool.{Bool, true, false}
use Prim.Native.Nat.{ℕ}
use Rattle.listing_text.specs.declared.writer.Answer.TheVariants.{Refused}
use Rattle.text.specs.Bytes.{bytes}
use Rattle.text.specs.Numerals.{decimal}
use Rattle.text.specs.Reading.{stepped_of, hexed_of, flagged_of, matched_of, counted_of, first_of, more_of, wanted_of}
use Rattle.text.specs.Reading as text
use Rattle.listing_text.specs.Grammar.{Grain, text_of}
use Rattle.listing_text.specs.Reading.{plan, start_of, feed_all, closed_of, fine_of}
use Rattle.listing_text.specs.Answers.{listing_of, answer_of}

-- a still grain at (4.5, 4.5), value 0.5, radius 0.5
still : Grain
still = record { x = 0x4012_0000_0000_0000; y = 0x4012_0000_0000_0000; vx = 0; vy = 0; val = 0x3fe0_0000_0000_0000; rad = 0x3fe0_0000_0000_0000 }

-- a 9 by 9 periodic box, rate 1
example_text : text_of (record { l0 = 0x4022_0000_0000_0000; l1 = 0x4022_0000_0000_0000; p0 = true; p1 = true; rate = 0x3ff0_0000_0000_0000; grains = still ∷ [] })
    ≡ bytes "l0,l1,p0,p1,rate,n\r\n4022000000000000,4022000000000000,1,1,3FF0000000000000,1\r\nx,y,vx,vy,val,rad\r\n4012000000000000,4012000000000000,0000000000000000,0000000000000000,3FE0000000000000,3FE0000000000000\r\n"
unfolding decimal still
example_text = refl

example_listing : listing_of 0x3ff0_0000_0000_0000 (still ∷ [])
    ≡ bytes "time,index,x,y,vx,vy,val,rad\r\n3FF0000000000000,0,4012000000000000,4012000000000000,0000000000000000,0000000000000000,3FE0000000000000,3FE0000000000000\r\n"
unfolding decimal still
example_listing = refl

refused_ten : answer_of (Refused 10) ≡ bytes "refused,10\r\n"
unfolding decimal
refused_ten = refl

accepted : List ℕ → Bool
accepted s = fine_of (closed_of (feed_all start_of s))

-- an empty box, with n and what follows it
abbrev boxed : List ℕ → List ℕ
boxed s = bytes "l0,l1,p0,p1,rate,n\r\n4022000000000000,4022000000000000,1,0,3FF0000000000000," ++ s

abbrev verdicts : List Bool
verdicts =
    accepted (boxed (bytes "0\r\nx,y,vx,vy,val,rad\r\n"))
    ∷ accepted (boxed (bytes "0\r\nx,y,vx,vy,val,rad"))
    -- a lone LF, a lone CR, an empty line more
    ∷ accepted (boxed (bytes "0\nx,y,vx,vy,val,rad\r\n"))
    ∷ accepted (boxed (bytes "0\r\nx,y,vx,vy,val,rad\r"))
    ∷ accepted (boxed (bytes "0\r\nx,y,vx,vy,val,rad\r\n\r\n"))
    -- a leading zero, no digit, a line that n does not count, one that it counts and is missing
    ∷ accepted (boxed (bytes "00\r\nx,y,vx,vy,val,rad\r\n"))
    ∷ accepted (boxed (bytes "\r\nx,y,vx,vy,val,rad\r\n"))
    ∷ accepted (boxed (bytes "0\r\nx,y,vx,vy,val,rad\r\n4012000000000000,4012000000000000,0000000000000000,0000000000000000,3FE0000000000000,3FE0000000000000\r\n"))
    ∷ accepted (boxed (bytes "1\r\nx,y,vx,vy,val,rad\r\n"))
    -- a digit in lower case
    ∷ accepted (boxed (bytes "1\r\nx,y,vx,vy,val,rad\r\n4012000000000000,4012000000000000,0000000000000000,0000000000000000,3fE0000000000000,3FE0000000000000\r\n"))
    -- no radius: in the names and the line of a grain, in the names where there is no grain, in the line alone
    ∷ accepted (boxed (bytes "1\r\nx,y,vx,vy,val\r\n4012000000000000,4012000000000000,0000000000000000,0000000000000000,3FE0000000000000\r\n"))
    ∷ accepted (boxed (bytes "0\r\nx,y,vx,vy,val\r\n"))
    ∷ accepted (boxed (bytes "1\r\nx,y,vx,vy,val,rad\r\n4012000000000000,4012000000000000,0000000000000000,0000000000000000,3FE0000000000000\r\n"))
    ∷ []

judged : verdicts ≡ true ∷ true ∷ false ∷ false ∷ false ∷ false ∷ false ∷ false ∷ false ∷ false ∷ false ∷ false ∷ false ∷ []
unfolding plan stepped_of hexed_of flagged_of matched_of counted_of first_of more_of wanted_of text.feed_of accepted
judged = refl
