pub mod GrantedOrRefused
