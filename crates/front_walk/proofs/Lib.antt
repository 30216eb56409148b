pub mod RingWalk
