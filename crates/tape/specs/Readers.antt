-- Direct reading: what an entry is at one request.
use Rattle.std.specs.Prelude.{◌≡◌, ℕ, false, refl}
use Rattle.std.proofs.Common.{ap, ◌∙◌}
use Rattle.tape.specs.Entries.{Model, Lasts}
use Rattle.tape.specs.declared.at_request.AtRequest.{AtRequest}

-- an entry is its value at the request, there is always room, and the request stays
abbrev pub at_model : Model AtRequest ℕ
at_model = record {
  sense = λ s e f. e ≡ f s.request;
  full = λ s f. false;
  later = λ s t. s.request ≡ t.request;
  grows = λ s f t. s.request ≡ t.request;
  stays = λ s t. s.request ≡ t.request;
}

-- what every reader owes, of this one
pub at_lasts : Lasts at_model
at_lasts = record {
  still = λ s. refl;
  constant = λ s c h. refl;
  free = λ s c h. refl;
  same = λ s. refl;
  chain = λ s t u h k. h ∙ k;
  keeps = λ s t e f h m. m ∙ ap f h;
}
