pub mod OneHoleMore
