-- The fault of a stream in a file stands at the same bytes.
use Rattle.std.proofs.Common.{◌≡◌, ℕ, ◌+◌, List, drop, Option, Some, None, refl, sym, ap, ◌∙◌}
use Rattle.std.proofs.lemmas.List.{drop-drop}
use Rattle.sys_demux.specs.declared.faults.SystemFault.{SystemFault}
use Rattle.sys_demux.specs.declared.faults.SystemFault.TheVariants.{NotPack, BadCode, BadPacket, Truncated}
use Rattle.inputs.specs.InputLaws.{IsFaultInFile, IsSameFault}
use Rattle.inputs.specs.Videos.{IsStreamFaultFrom, fault_from, pack_in, place_of}

same_from : (place : ℕ) (own : SystemFault) → IsSameFault own (fault_from place own)
same_from place (NotPack at) = tt
same_from place (BadCode at) = tt
same_from place (BadPacket at) = tt
same_from place (Truncated at) = tt

place_from : (place : ℕ) (own : SystemFault) → place_of (fault_from place own) ≡ place + place_of own
place_from place (NotPack at) = refl
place_from place (BadCode at) = refl
place_from place (BadPacket at) = refl
place_from place (Truncated at) = refl

pub fault_in_file : (file : List ℕ) (fault : SystemFault) (from : Option ℕ) → pack_in file ≡ from
    → IsStreamFaultFrom from file fault → IsFaultInFile file fault
fault_in_file file fault None begins h = absurd h
fault_in_file file fault (Some place) begins h =
    let own : SystemFault = h.0 in
    record {
      place = place;
      begins = begins;
      own = own;
      refused = h.1.0;
      same = rw h.1.1 (same_from place own);
      bytes = ap (λ (n : ℕ). drop n file) (ap place_of h.1.1 ∙ place_from place own)
          ∙ sym (drop-drop (place_of own) place file);
    }
