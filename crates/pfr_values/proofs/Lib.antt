mod InsideLemmas
mod MacLemmas
mod PeerLemmas
mod PlaceLemmas
