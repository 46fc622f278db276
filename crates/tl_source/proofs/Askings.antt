-- Requests for resources.
use Rattle.std.proofs.Common.{◌≡◌, ℕ, ◌≤◌, length, List, Ok, refl, subst}
use Rattle.tl_http.specs.Post.{Given, Replied}
use Rattle.tl_tile.specs.declared.resource.Resource.{Resource}
use Rattle.tl_folder.specs.Limits.{most_bytes}
use Rattle.tl_folder.specs.Places.{place_of}
use Rattle.tl_source.specs.Asking.{Asks, IsFront, MayGive, request_of, wanted_up_to}
use Rattle.tl_source.specs.Calling.{MayExchange}
use Rattle.tl_source.proofs.Responses.{exchange_fits}

-- what is known of the request for a resource
pub asked : (authority prefix front target : List ℕ) (resource : Resource) (most : ℕ) (r : Replied) → IsFront prefix front → target ≡ place_of front resource → most ≡ most_bytes resource
    → MayExchange (request_of authority target) (wanted_up_to most) r → Asks authority prefix resource r
asked authority prefix front target resource most r cut at limit exchange = record {
  target = target;
  target_is = record { front = front; cut = cut; is = at };
  exchange = subst (λ (n : ℕ). MayExchange (request_of authority target) (wanted_up_to n) r) limit exchange;
}

-- what is known of the body of its response
pub given_body : (authority prefix front target : List ℕ) (resource : Resource) (most : ℕ) (given : Given) → IsFront prefix front → target ≡ place_of front resource → most ≡ most_bytes resource
    → MayExchange (request_of authority target) (wanted_up_to most) (Ok given) → MayGive authority prefix resource given.body
given_body authority prefix front target resource most given cut at limit exchange = record {
  given = given;
  asks = asked authority prefix front target resource most (Ok given) cut at limit exchange;
  is = refl;
  short = subst (λ (n : ℕ). length given.body ≤ n) limit (exchange_fits (request_of authority target) most exchange.reader exchange.writer given exchange.exchanges);
}
